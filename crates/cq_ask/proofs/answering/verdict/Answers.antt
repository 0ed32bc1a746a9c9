use Rattle.std.proofs.Common.{◌∙◌, length, sym, inr}
use Rattle.std.proofs.lemmas.Bool.{both_ways, eq-eqb}
use Rattle.std.proofs.lemmas.Bool.Decides.{Decides-eqb}
use Rattle.cq_ask.proofs.Told.{verdict_none, verdict_on}
use Rattle.cq_ask.proofs.answering.verdict.Goals as goal

pub returns-then-is_empty : goal.returns-then-is_empty
returns-then-is_empty g c = verdict_none (λ word. word.now) c.args.board.now c.args.words.now ((Decides-eqb (length c.args.words.now) 0).0 (sym c.is_empty.ensures ∙ c.if-is_empty.true))

pub returns-in-Ok : goal.returns-in-Ok
returns-in-Ok g c =
    let words = c.args.words.now in
    verdict_on (λ word. word.now) c.args.board.now words c.in-Ok.choices.items c.check_choice.result
    (λ none. both_ways c.is_empty.result c.if-is_empty.false (c.is_empty.ensures ∙ eq-eqb (length words) 0 none)) c.in-Ok.ensures.found
    (rw c.deref.ensures.value at c.check_choice.ensures.choice)

pub returns-in-Err-Bad : goal.returns-in-Err-Bad
returns-in-Err-Bad g c = inr (c.in-Err-Bad.ensures.bad (λ is. let never = sym c.in-Err-Bad.field-0-is ∙ is in cc))
