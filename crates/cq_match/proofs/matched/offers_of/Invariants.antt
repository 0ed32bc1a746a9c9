use Rattle.std.proofs.Common.{take, length}
use Rattle.cq_match.specs.Steps.Places.{AreOffersOf}
use Rattle.cq_match.proofs.matched.offers_of.Given as goal

abbrev pub invariant-loop-edge : goal.invariant-loop-edge
invariant-loop-edge g l = AreOffersOf l.ranked l.slots.starts.items (length l.slots.owners.items) (take l.edge-index l.edges) l.offers.items
