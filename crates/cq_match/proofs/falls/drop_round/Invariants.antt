use Rattle.std.proofs.Common.{◌≡◌, ℕ, ◌+◌, ◌<◌, ◌≤◌, ◌⊎◌, ◌&&◌, not, nat_eq, take, sum, length, count_by, slice_index, vec_len, SomeIndex}
use Rattle.std.specs.List.{All, Contains}
use Rattle.std.specs.Set.{is_member}
use Rattle.cq_match.specs.Steps.Settle.{stands, feeds}
use Rattle.cq_match.proofs.falls.drop_round.Given as goal

abbrev pub invariant-loop-place : goal.invariant-loop-place
invariant-loop-place g l = record {
  fell : (place : ℕ) → stands l.standing place ≡ (stands l.initial.standing place && not (is_member nat_eq (take l.place-index l.round) place));
  counted : (slot : ℕ) → slot < length l.owners → slice_index l.counts slot ≡ count_by (feeds (stands l.standing) slot) l.offers;
  each : (slot : ℕ) → slot < length l.owners → slice_index l.counts slot ≡ 0 → (slice_index l.initial.counts slot ≡ 0) ⊎ Contains l.waiting.items (slice_index l.owners slot);
  only : All (λ place. SomeIndex l.owners (λ slot. (slice_index l.counts slot ≡ 0) × (slice_index l.owners slot ≡ place))) l.waiting.items;
  fewer : sum l.counts + vec_len l.waiting ≤ sum l.initial.counts;
}
