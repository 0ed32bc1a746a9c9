use Rattle.std.proofs.Common.{◌≡◌, ◌∙◌, [], length, ap, sym}
use Rattle.std.proofs.lemmas.Bool.{both_ways, eq-eqb}
use Rattle.cq_ask.proofs.Chosen.{lists-nothing, lists_none}
use Rattle.cq_ask.proofs.choices.values_of.Goals as goal

pub returns-then-not-branch : goal.returns-then-not-branch
returns-then-not-branch g c values lists =
    let full : c.args.text.now ≡ [] → ⊥ = λ e. both_ways c.is_empty.result c.if-is_empty.false (c.is_empty.ensures ∙ eq-eqb (length c.args.text.now) 0 (ap length e)) in
    lists_none c.args.text.now full (c.in_ok-add_values.ensures.none c.new-values.ensures.items c.new-piece.ensures.items c.if-not-branch.true) values lists

pub returns-then-is_empty : goal.returns-then-is_empty
returns-then-is_empty g c = lists-nothing c.args.text.now c.new-values.result.items (sym c.is_empty.ensures ∙ c.if-is_empty.true) c.new-values.ensures.items

pub returns : goal.returns
returns g c = c.in_ok-add_values.ensures.added c.new-values.ensures.items c.new-piece.ensures.items c.if-not-branch.false
