use Rattle.std.proofs.Common.{refl}
use Rattle.std.proofs.lemmas.List.{take_all}
use Rattle.std.proofs.lemmas.Result.{err_from_is_err_and}
use Rattle.cq_ask.proofs.Chosen.{chosen-more, none_of_words, bad_word}
use Rattle.cq_ask.proofs.choices.read_choices.Goals as goal

pub loop-place-preserved : goal.loop-place-preserved
loop-place-preserved g c =
    let added = c.in_ok-add_choice.ensures.added c.if-not-branch.false in
    rw added.2 (chosen-more (λ word. word.now) c.args.words.now c.loop-place.place _ c.loop-place.choices.items added.0 c.loop-place-test.true c.loop-place.invariant added.1)

pub returns-then-not-branch-clause-bad : goal.returns-then-not-branch-clause-bad
returns-then-not-branch-clause-bad g c differs = none_of_words (λ word. word.now) c.args.words.now c.loop-place.place _ c.loop-place-test.true (c.in_ok-add_choice.ensures.none c.if-not-branch.true)

pub returns-then-not-branch-clause-at : goal.returns-then-not-branch-clause-at
returns-then-not-branch-clause-at g c = bad_word (λ word. word.now) c.args.words.now c.loop-place.place _ c.loop-place-test.true (c.in_ok-add_choice.ensures.none c.if-not-branch.true)

pub returns-clause-found : goal.returns-clause-found
returns-clause-found g c = rw (take_all c.loop-place.place c.args.words.now c.loop-place-test.false) at c.loop-place.invariant

pub returns-in_err-add_choice-clause-bad : goal.returns-in_err-add_choice-clause-bad
returns-in_err-add_choice-clause-bad g c =
    let p = err_from_is_err_and c.from_residual.result c.from_residual.ensures.1 in
    rw (p.1, p.2) (λ differs. absurd (differs refl))

pub returns-in_err-add_choice-clause-at : goal.returns-in_err-add_choice-clause-at
returns-in_err-add_choice-clause-at g c =
    let p = err_from_is_err_and c.from_residual.result c.from_residual.ensures.1 in
    rw (p.1, p.2) tt
