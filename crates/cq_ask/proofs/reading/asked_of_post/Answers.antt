use Rattle.std.proofs.Common.{◌≡◌, ◌∙◌, ℕ, List, [], length, ap, sym, subst, arith}
use Rattle.std.specs.Prelude.{IfOk}
use Rattle.cq_ask.specs.declared.ask.AskKind.TheVariants.{Unfit}
use Rattle.cq_ask.specs.Ask.{AskRecord}
use Rattle.cq_ask.proofs.Names.{not_two, some_post}
use Rattle.cq_ask.proofs.reading.asked_of_post.Goals as goal

pub returns-then-words-ne2 : goal.returns-then-words-ne2
returns-then-words-ne2 g c =
    c.new-then-words-ne2.ensures ∙ ap (λ (names : List (List ℕ)). let one : AskRecord = record { kind = Unfit; names = names; text = [] } in one) c.new.ensures.items
    ∙ sym (not_two (λ word. word.now) c.args.words.now (λ two. let never : ⊥ = omega (arith, two) in never))

pub returns-in-Some : goal.returns-in-Some
returns-in-Some g c =
    let two : length c.args.words.now ≡ 2 = omega arith in
    subst (λ (asked : AskRecord). IfOk c.asked_of_names.result (λ ask. ask ≡ asked)) (sym (some_post (λ word. word.now) _ c.args.words.now c.in-Some.post two (sym c.in-Some.is ∙ c.in_ok-post.ensures))) c.asked_of_names.ensures
