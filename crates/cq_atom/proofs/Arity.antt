-- What has no fault of name or arity has 1 to 16 terms or values.
use Rattle.std.proofs.Common.{◌≡◌, ◌≤◌, ℕ, Bool, true, false, List, Some, None, refl, if◌then◌else◌}
use Rattle.std.specs.Prelude.{◌&&◌, nat_le}
use Rattle.std.proofs.lemmas.Bool.{leb-true}
use Rattle.cq_atom.specs.declared.fault.Bad.TheVariants.{BadName, BadArity}
use Rattle.cq_atom.specs.Limits.{max_arity}
use Rattle.cq_atom.specs.Text.{is_relation_name}
use Rattle.cq_atom.specs.Atom.{is_arity, arity_fault}

left_of : (a b : Bool) → (a && b) ≡ true → a ≡ true
left_of true b e = refl
left_of false b e = e

right_of : (a b : Bool) → (a && b) ≡ true → b ≡ true
right_of true b e = e
right_of false b e = absurd cc

arity_of : (r a : Bool) → (if r then (if a then None else Some BadArity) else Some BadName) ≡ None → a ≡ true
arity_of true true e = refl
arity_of true false e = absurd cc
arity_of false a e = absurd cc

arity-known : (relation : List ℕ) (count : ℕ) → arity_fault relation count ≡ None → is_arity count ≡ true
arity-known relation count e = arity_of (is_relation_name relation) (is_arity count) e

pub count-some : (relation : List ℕ) (count : ℕ) → arity_fault relation count ≡ None → 1 ≤ count
count-some relation count e = leb-true 1 count (left_of (nat_le 1 count) (nat_le count max_arity) (arity-known relation count e))

pub count-few : (relation : List ℕ) (count : ℕ) → arity_fault relation count ≡ None → count ≤ max_arity
count-few relation count e = leb-true count max_arity (right_of (nat_le 1 count) (nat_le count max_arity) (arity-known relation count e))
