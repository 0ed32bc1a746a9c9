use Rattle.std.proofs.Common.{◌≡◌, ◌++◌, List, codes, subst}
use Rattle.std.specs.Prelude.{string_bytes}
use Rattle.std.specs.List.{join_by}
use Rattle.std.proofs.lemmas.List.{take_all}
use Rattle.cq_board.specs.Choice.{ChoiceRecord}
use Rattle.cq_going.specs.Going.{choice_word}
use Rattle.cq_going.proofs.Separated.{item_more}
use Rattle.cq_going.proofs.listing.put_words.Goals as goal

pub loop-place-preserved : goal.loop-place-preserved
loop-place-preserved g c =
    item_more choice_word (codes " ") _ _ _ _ _ _ _ c.loop-place-test.true c.index-choices-place.is c.loop-place.invariant c.in_ok-put_separator.ensures c.in_ok-put_word.ensures

pub returns : goal.returns
returns g c =
    subst (λ (xs : List ChoiceRecord). string_bytes c.loop-place.page ≡ string_bytes c.args.page.now ++ join_by choice_word (codes " ") xs) (take_all c.loop-place.place c.args.choices.now c.loop-place-test.false) c.loop-place.invariant
