use Rattle.std.proofs.Common.{◌+◌, List, length, sum, vec_len}
use Rattle.std.specs.List.{All}
use Rattle.cq_atom.specs.declared.edge.Edge.{Edge}
use Rattle.cq_match.specs.Steps.Places.{AreOffersOf}
use Rattle.cq_match.proofs.Union.{HasEnds}
use Rattle.cq_match.proofs.Waves.{Waving, SoFar}
use Rattle.cq_match.proofs.falls.rounds_of.Given as goal

abbrev pub invariant-loop-alloc : goal.invariant-loop-alloc
invariant-loop-alloc g l = record {
  waving : Waving l.ranked l.slots.owners.items l.offers l.standing.items l.counts.items l.waiting.items;
  so_far : (edges : List Edge) → All (HasEnds l.ranked) edges → AreOffersOf l.ranked l.slots.starts.items (length l.slots.owners.items) edges l.offers → SoFar l.ranked edges l.standing.items l.falls.items;
}

abbrev pub decreases-loop-alloc : goal.decreases-loop-alloc
decreases-loop-alloc g l = sum l.counts.items + vec_len l.waiting
