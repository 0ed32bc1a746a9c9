use Rattle.std.proofs.Common.{◌≡◌, ℕ, ◌<◌, take, count_by, slice_index, vec_len}
use Rattle.cq_match.specs.Steps.Settle.{is_into}
use Rattle.cq_match.proofs.settle.counts_of.Given as goal

abbrev pub invariant-loop-offer : goal.invariant-loop-offer
invariant-loop-offer g l = record {
  len : vec_len l.counts ≡ l.slots;
  counted : (slot : ℕ) → slot < l.slots → slice_index l.counts.items slot ≡ count_by (is_into slot) (take l.offer-index l.offers);
}
