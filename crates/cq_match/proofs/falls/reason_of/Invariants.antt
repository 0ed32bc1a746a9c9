use Rattle.std.proofs.Common.{ℕ, ◌+◌, ◌<◌, ◌≢◌, slice_index}
use Rattle.cq_match.proofs.falls.reason_of.Given as goal

abbrev pub invariant-loop-post : goal.invariant-loop-post
invariant-loop-post l = (lower : ℕ) → lower < l.post → slice_index l.counts (l.start + lower) ≢ 0
