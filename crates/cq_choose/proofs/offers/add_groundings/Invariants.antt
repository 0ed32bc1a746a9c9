use Rattle.std.proofs.Common.{◌≡◌, ◌++◌, map, Some}
use Rattle.cq_choose.specs.Steps.Offers.{offer_of, offers_by}
use Rattle.cq_choose.proofs.offers.add_groundings.Given as goal

-- those so far and those to come are all
abbrev pub invariant-loop-values : goal.invariant-loop-values
invariant-loop-values g l =
    map offer_of l.offers.items ++ offers_by l.place l.name (Some l.query) (Some (map (λ values. values.items) l.values-iterator))
    ≡ map offer_of l.initial.offers.items ++ offers_by l.place l.name (Some l.query) (Some l.groundings)
