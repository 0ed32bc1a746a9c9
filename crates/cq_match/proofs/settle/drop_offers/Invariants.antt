use Rattle.std.proofs.Common.{◌≡◌, ℕ, ◌+◌, ◌<◌, ◌≤◌, ◌⊎◌, drop, sum, count_by, slice_index, vec_len, SomeIndex, length}
use Rattle.std.specs.List.{All, Contains}
use Rattle.cq_match.specs.Steps.Settle.{is_into}
use Rattle.cq_match.proofs.settle.drop_offers.Given as goal

abbrev pub invariant-loop-offer : goal.invariant-loop-offer
invariant-loop-offer g l = record {
  lowered : (slot : ℕ) → slice_index l.counts slot + count_by (is_into slot) l.offers ≡ slice_index l.initial.counts slot + count_by (is_into slot) (drop l.offer-index l.offers);
  each : (slot : ℕ) → slot < length l.owners → slice_index l.counts slot ≡ 0 → (slice_index l.initial.counts slot ≡ 0) ⊎ Contains l.waiting.items (slice_index l.owners slot);
  kept : (place : ℕ) → Contains l.initial.waiting.items place → Contains l.waiting.items place;
  only : All (λ place. Contains l.initial.waiting.items place ⊎ SomeIndex l.owners (λ slot. (slice_index l.counts slot ≡ 0) × (slice_index l.owners slot ≡ place))) l.waiting.items;
  fewer : sum l.counts + vec_len l.waiting ≤ sum l.initial.counts + vec_len l.initial.waiting;
}
