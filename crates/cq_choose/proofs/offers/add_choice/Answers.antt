use Rattle.cq_choose.specs.Steps.Offers.{offer_of}
use Rattle.cq_choose.proofs.Kept.{choices-none}
use Rattle.cq_choose.proofs.Onward.{choices-one}
use Rattle.cq_choose.proofs.offers.add_choice.Goals as goal

pub returns-in_default : goal.returns-in_default
returns-in_default g c = choices-none offer_of c.args.offers.now c.args.number c.args.choices.now.items c.in_default.ensures.lookup.3

pub returns-in_ok-push : goal.returns-in_ok-push
returns-in_ok-push g c =
    let got = c.in-Some.ensures.lookup in
    choices-one offer_of c.args.offers.now c.args.number c.in-Some.offer.now c.push.new.self.items c.args.choices.now.items c.in_ok-choice_of.field-0 got.3.0 got.1 c.in_ok-push.ensures.items c.in_ok-choice_of.ensures
