-- What is kept at a place, and what ties it to the buckets.
use Rattle.std.specs.Prelude.{◌≡◌, ℕ, Bool, false, cond, ◌||◌, nat_eq, List, Option, Some, None}
use Rattle.std.specs.Map.{lookup}
use Rattle.cq_atom.specs.Atom.{AtomRecord}
use Rattle.cq_index.specs.declared.buckets.Bucket.{Bucket}
use Rattle.cq_index.specs.Steps.Keys.{KeyContent, same_key, key_of, group_of}
use Rattle.cq_index.specs.Steps.Buckets.{holds}

-- The atom at the place.
abbrev pub atom_at : List (ℕ × AtomRecord) → ℕ → Option AtomRecord
atom_at kept p = lookup (nat_eq p) kept

-- The same atoms, but for this one at the place, or none.
abbrev pub Sets : List (ℕ × AtomRecord) → ℕ → Option AtomRecord → List (ℕ × AtomRecord) → Type 0
Sets old place o new = (p : ℕ) → atom_at new p ≡ cond (nat_eq place p) o (atom_at old p)

-- Whether an atom belongs into the bucket under the key.
abbrev pub belongs : Option AtomRecord → KeyContent → Bool
belongs None k = false
belongs (Some a) k = same_key (key_of a) k || same_key (group_of a) k

-- The bucket under a key has the places whose atoms belong there.
abbrev pub AreIndexed : {A : Type 0} → List (ℕ × AtomRecord) → List (KeyContent × Bucket A) → Type 0
AreIndexed kept buckets = (k : KeyContent) (p : ℕ) → holds buckets k p ≡ belongs (atom_at kept p) k
