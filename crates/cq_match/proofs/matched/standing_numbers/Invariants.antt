use Rattle.std.proofs.Common.{◌≡◌, ℕ, ◌<◌, ◌≤◌, length, nat_eq}
use Rattle.std.specs.List.{All, Contains}
use Rattle.std.specs.List.Sorted.{IsStrictlyIncreasing}
use Rattle.std.specs.Set.{is_member}
use Rattle.cq_match.specs.Matched.{numbers}
use Rattle.cq_match.specs.Steps.Places.{number_at}
use Rattle.cq_match.specs.Steps.Settle.{stands}
use Rattle.cq_match.proofs.matched.standing_numbers.Given as goal

abbrev pub invariant-loop-place : goal.invariant-loop-place
invariant-loop-place g l = record {
  found : (place : ℕ) → place < l.place → is_member nat_eq l.found.items (number_at l.ranked place) ≡ stands l.standing place;
  known : All (Contains (numbers l.ranked)) l.found.items;
  below : (place : ℕ) → l.place ≤ place → place < length l.ranked → All (λ number. number < number_at l.ranked place) l.found.items;
  rising : IsStrictlyIncreasing l.found.items;
}
