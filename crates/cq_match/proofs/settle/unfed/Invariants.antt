use Rattle.std.proofs.Common.{◌≡◌, ℕ, ◌<◌, slice_index, SomeIndex}
use Rattle.std.specs.List.{All, Contains}
use Rattle.cq_match.proofs.settle.unfed.Given as goal

abbrev pub invariant-loop-slot : goal.invariant-loop-slot
invariant-loop-slot g l = record {
  each : (slot : ℕ) → slot < l.slot → slice_index l.counts slot ≡ 0 → Contains l.found.items (slice_index l.owners slot);
  only : All (λ place. SomeIndex l.owners (λ slot. (slice_index l.counts slot ≡ 0) × (slice_index l.owners slot ≡ place))) l.found.items;
}
