-- Nodes that are taken one after another, by their flags.
use Rattle.std.specs.Prelude.{◌≡◌, ◌⊎◌, ℕ, ◌+◌, ◌*◌, ◌≤◌, Bool, true, false, not, ◌&&◌, List, [], ◌∷◌, length}
use Rattle.std.specs.List.{Contains}
use Rattle.cq_atom.specs.declared.edge.Edge.{Edge}
use Rattle.cq_closure.specs.Closure.{is_set, IsReached}

-- How many flags are set.
abbrev pub set_count : List Bool → ℕ
set_count [] = 0
set_count (true ∷ flags) = set_count flags + 1
set_count (false ∷ flags) = set_count flags

-- The node may be reached, and is not spare.
abbrev pub is_taken : List Bool → List Bool → ℕ → Bool
is_taken may spare node = is_set may node && not (is_set spare node)

-- Nodes were taken: they are no longer spare, and are left to be looked at.
pub record Takes (before : List Bool) (left : List ℕ) (after : List Bool) (more : List ℕ) : Type 0 where
  pub kept : (n : ℕ) → is_set before n ≡ false → is_set after n ≡ false
  pub noted : (n : ℕ) → is_set before n ≡ true → is_set after n ≡ false → Contains more n
  pub stays : (n : ℕ) → Contains left n → Contains more n
  pub fewer : length more + 2 * set_count after ≤ length left + 2 * set_count before

-- Where a node is taken, its providers are, or it is left to be looked at.
pub record IsClosing (edges : List Edge) (may spare : List Bool) (left : List ℕ) : Type 0 where
  pub closing : (e : Edge) → Contains edges e → is_set may e.waiter ≡ true → is_set spare e.waiter ≡ false → (is_set spare e.provider ≡ false) ⊎ Contains left e.waiter

-- Who is taken is reached, and who is left to be looked at. Who is spare may be.
pub record AreReached (edges : List Edge) (may first spare : List Bool) (left : List ℕ) : Type 0 where
  pub taken : (n : ℕ) → is_set may n ≡ true → is_set spare n ≡ false → IsReached edges may first n
  pub next : (n : ℕ) → Contains left n → IsReached edges may first n
  pub able : (n : ℕ) → is_set spare n ≡ true → is_set may n ≡ true
