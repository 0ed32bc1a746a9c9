use Rattle.std.proofs.Common.{◌≡◌, map, take}
use Rattle.cq_choose.specs.Steps.Offers.{offer_of, choices_of}
use Rattle.cq_choose.proofs.offers.choices_of.Given as goal

abbrev pub invariant-loop-number : goal.invariant-loop-number
invariant-loop-number g l = l.choices.items ≡ choices_of (map offer_of l.offers) (take l.number-index l.chosen)
