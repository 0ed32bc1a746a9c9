use Rattle.std.proofs.Common.{◌∙◌, List, map, sym, subst, arith}
use Rattle.std.specs.List.{All, Contains}
use Rattle.std.proofs.lemmas.List.{take_all}
use Rattle.std.proofs.lemmas.List.Elements.{All-map, All-more}
use Rattle.cq_board.specs.Choice.{chosen_name}
use Rattle.cq_reached.specs.declared.quick.Taken.{Taken}
use Rattle.cq_reached.proofs.Taking.{has-name}
use Rattle.cq_reached.proofs.reached.have_all.Goals as goal

pub loop-one-preserved : goal.loop-one-preserved
loop-one-preserved g c =
    let choices = c.args.choices.now in
    let one = c.one-item.result in
    let has = λ (t : Taken g.row.A.Denot). Contains (map chosen_name choices) t.name.now in
    All-more has c.args.taken.now c.loop-one.one-index one (omega arith) c.loop-one.invariant (subst has c.one-item.is (has-name choices one.name.now (sym c.has_choice.ensures ∙ c.if-not-has_choice.false)))

pub returns : goal.returns
returns g c told =
    let taken = c.args.taken.now in
    let named = Contains (map chosen_name c.args.choices.now) in
    let all = subst (λ (l : List (Taken g.row.A.Denot)). All (λ t. named t.name.now) l) (take_all c.loop-one.one-index taken (omega arith)) c.loop-one.invariant in
    All-map named (λ (t : Taken g.row.A.Denot). t.name.now) taken all
