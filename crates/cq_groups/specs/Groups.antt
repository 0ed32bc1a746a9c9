-- Groups: nodes that hang together by edges. (connected components: Hopcroft, Tarjan, CACM 1973)
use Rattle.std.specs.Prelude.{◌≡◌, ◌≤◌, ◌<◌, ◌↔◌, ℕ, List, length, slice_index}
use Rattle.std.specs.List.{Contains}

-- Two nodes hang together: they are one, or an edge leads from one to the other, or each hangs together with a third.
pub data HangTogether (edges : List (ℕ × ℕ)) : ℕ → ℕ → Type 0 where
  Same : (a : ℕ) → HangTogether edges a a
  Joined : (a b : ℕ) → Contains edges (a, b) → HangTogether edges a b
  Back : (a b : ℕ) → HangTogether edges a b → HangTogether edges b a
  Over : (a b c : ℕ) → HangTogether edges a b → HangTogether edges b c → HangTogether edges a c

-- Each of so many nodes has the lowest node of its group: two nodes have one label exactly where they hang together, and a label is a node of that label and no higher than those that have it.
pub record AreLabels (edges : List (ℕ × ℕ)) (count : ℕ) (labels : List ℕ) : Type 0 where
  pub each : length labels ≡ count
  pub groups : (a b : ℕ) → a < count → b < count → (slice_index labels a ≡ slice_index labels b) ↔ HangTogether edges a b
  pub lowest : (a : ℕ) → a < count → slice_index labels a ≤ a
  pub member : (a : ℕ) → a < count → slice_index labels (slice_index labels a) ≡ slice_index labels a
