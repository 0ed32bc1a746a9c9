use Rattle.std.proofs.Common.{◌++◌, ◌∙◌, ◌∷◌, [], List, map, get_or, sym, ap}
use Rattle.std.proofs.lemmas.List.{take_all}
use Rattle.cq_board.specs.Choice.{ChoiceRecord}
use Rattle.cq_choose.specs.Steps.Offers.{offer_of, choices_of}
use Rattle.cq_choose.proofs.Kept.{choices-more, getting}
use Rattle.cq_choose.proofs.offers.choices_of.Goals as goal

pub loop-number-preserved : goal.loop-number-preserved
loop-number-preserved g c =
    let offers = map offer_of c.args.offers.now in
    let i = c.loop-number.number-index in
    let number = c.args.chosen.now in
    c.in_ok-add_choice.ensures ∙ ap (λ (choices : List ChoiceRecord). choices ++ choices_of offers (get_or number i 0 ∷ [])) c.loop-number.invariant ∙ sym (choices-more offers number i (get_or number i 0) c.loop-number-test.true (getting number i 0 c.loop-number-test.true))

pub returns : goal.returns
returns g c = c.loop-number.invariant ∙ ap (choices_of (map offer_of c.args.offers.now)) (take_all c.loop-number.number-index c.args.chosen.now c.loop-number-test.false)
