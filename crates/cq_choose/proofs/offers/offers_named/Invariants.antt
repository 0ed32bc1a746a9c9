use Rattle.std.proofs.Common.{◌≡◌, ◌++◌, map, drop}
use Rattle.cq_choose.specs.Steps.Offers.{offer_of, offers_from}
use Rattle.cq_choose.proofs.offers.offers_named.Given as goal

-- those so far and those to come are all
abbrev pub invariant-loop-place : goal.invariant-loop-place
invariant-loop-place g l =
    map offer_of l.offers.items ++ offers_from l.board l.spare l.place (map (λ name. name.now) (drop l.place l.names)) ≡ offers_from l.board l.spare 0 (map (λ name. name.now) l.names)
