-- Buckets: under each key the set of the places whose atoms belong there.
use Rattle.std.specs.Prelude.{◌≡◌, ℕ, Bool, true, false, ◌&&◌, ◌||◌, not, nat_eq, ◌++◌, List, Option, Some, None}
use Rattle.std.specs.List.{list_any, IsDistinct}
use Rattle.std.specs.Map.{lookup}
use Rattle.std.specs.HashSet.{contains}
use Rattle.cq_index.specs.declared.buckets.Bucket.{Bucket}
use Rattle.cq_index.specs.declared.buckets.Bucket.TheVariants.{One, Many}
use Rattle.cq_index.specs.Steps.Keys.{KeyContent, same_key}

abbrev pub is_in : {A : Type 0} → Bucket A → ℕ → Bool
is_in (One q) p = nat_eq p q
is_in (Many places) p = contains nat_eq places.value p

abbrev pub has_place : {A : Type 0} → Option (Bucket A) → ℕ → Bool
has_place None p = false
has_place (Some b) p = is_in b p

-- Whether the bucket under the key has the place.
abbrev pub holds : {A : Type 0} → List (KeyContent × Bucket A) → KeyContent → ℕ → Bool
holds bs k p = has_place (lookup (same_key k) bs) p

-- The same, with the place in the bucket under the key.
abbrev pub Puts : {A : Type 0} → List (KeyContent × Bucket A) → KeyContent → ℕ → List (KeyContent × Bucket A) → Type 0
Puts old key place new = (k : KeyContent) (p : ℕ) → holds new k p ≡ (same_key key k && nat_eq place p || holds old k p)

-- The same, without the place in the bucket under the key.
abbrev pub Takes : {A : Type 0} → List (KeyContent × Bucket A) → KeyContent → ℕ → List (KeyContent × Bucket A) → Type 0
Takes old key place new = (k : KeyContent) (p : ℕ) → holds new k p ≡ (not (same_key key k && nat_eq place p) && holds old k p)

-- The same places in each bucket.
abbrev pub Keeps : {A : Type 0} → List (KeyContent × Bucket A) → List (KeyContent × Bucket A) → Type 0
Keeps old new = (k : KeyContent) (p : ℕ) → holds new k p ≡ holds old k p

-- The same buckets under all keys but this one.
abbrev pub IsBut : {A : Type 0} → List (KeyContent × Bucket A) → KeyContent → List (KeyContent × Bucket A) → Type 0
IsBut old key new = (k : KeyContent) → same_key key k ≡ false → lookup (same_key k) new ≡ lookup (same_key k) old

-- No bucket has the place.
abbrev pub IsNowhere : {A : Type 0} → List (KeyContent × Bucket A) → ℕ → Type 0
IsNowhere buckets place = (k : KeyContent) → holds buckets k place ≡ false

-- The same, with the place in the buckets under the two keys.
abbrev pub PutsBoth : {A : Type 0} → List (KeyContent × Bucket A) → KeyContent → KeyContent → ℕ → List (KeyContent × Bucket A) → Type 0
PutsBoth old own group place new = (k : KeyContent) (p : ℕ) → holds new k p ≡ ((same_key own k || same_key group k) && nat_eq place p || holds old k p)

-- The same, without the place in the buckets under the two keys.
abbrev pub TakesBoth : {A : Type 0} → List (KeyContent × Bucket A) → KeyContent → KeyContent → ℕ → List (KeyContent × Bucket A) → Type 0
TakesBoth old own group place new = (k : KeyContent) (p : ℕ) → holds new k p ≡ (not ((same_key own k || same_key group k) && nat_eq place p) && holds old k p)

-- A list with the places added that pass the test, each once.
pub record Adds (old : List ℕ) (test : ℕ → Bool) (new : List ℕ) : Type 0 where
  pub added : List ℕ
  pub is : new ≡ old ++ added
  pub members : (p : ℕ) → list_any (nat_eq p) added ≡ test p
  pub distinct : IsDistinct nat_eq added

-- The places that pass the one test and those that pass the other, each once where the tests are apart.
pub record Joins (places : List ℕ) (left right : ℕ → Bool) : Type 0 where
  pub members : (p : ℕ) → list_any (nat_eq p) places ≡ (left p || right p)
  pub distinct : ((p : ℕ) → left p ≡ true → right p ≡ true → ⊥) → IsDistinct nat_eq places
