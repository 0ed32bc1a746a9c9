-- Blocks of keys: atoms at keys that follow one another.
use Rattle.std.specs.Prelude.{◌≡◌, ℕ, ◌+◌, ◌-◌, Bool, ◌&&◌, cond, nat_le, nat_lt, List, length, slice_get, None}
use Rattle.std.specs.FinMap.{get}
use Rattle.cq_atom.specs.Atom.{AtomRecord}
use Rattle.cq_index.specs.Index.{AtomMap}

-- The key is one of that many that follow one another.
abbrev pub is_in_block : ℕ → ℕ → ℕ → Bool
is_in_block first count key = nat_le first key && nat_lt key (first + count)

-- The same atoms, with these at the keys of the block.
abbrev pub PutsBlock : ℕ → List AtomRecord → AtomMap → AtomMap → Type 0
PutsBlock first atoms old new = (k : ℕ) → get new k ≡ cond (is_in_block first (length atoms) k) (slice_get atoms (k - first)) (get old k)

-- The same atoms, with none at the keys of the block.
abbrev pub TakesBlock : ℕ → ℕ → AtomMap → AtomMap → Type 0
TakesBlock first count old new = (k : ℕ) → get new k ≡ cond (is_in_block first count k) None (get old k)
