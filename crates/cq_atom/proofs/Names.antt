-- What the shared tests of names say of each other.
use Rattle.std.proofs.Common.{◌≡◌, ℕ, Bool, true, false, List, Some, None, refl, if◌then◌else◌}
use Rattle.std.specs.Prelude.{◌&&◌}
use Rattle.cq_atom.specs.declared.fault.Bad.TheVariants.{BadName, BadArity}
use Rattle.cq_atom.specs.Text.{is_name, is_relation_name, is_variable_name, begins_with_upper, begins_with_lower}
use Rattle.cq_atom.specs.Atom.{is_arity, arity_fault}

left_of : (a b : Bool) → (a && b) ≡ true → a ≡ true
left_of true b e = refl
left_of false b e = e

relation_of : (r a : Bool) → (if r then (if a then None else Some BadArity) else Some BadName) ≡ None → r ≡ true
relation_of true a e = refl
relation_of false a e = absurd cc

-- what has no fault of name or arity has a relation's name
pub relation-known : (relation : List ℕ) (count : ℕ) → arity_fault relation count ≡ None → is_relation_name relation ≡ true
relation-known relation count e = relation_of (is_relation_name relation) (is_arity count) e

pub name-known : (relation : List ℕ) (count : ℕ) → arity_fault relation count ≡ None → is_name relation ≡ true
name-known relation count e = left_of (is_name relation) (begins_with_upper relation) (relation-known relation count e)

pub name-of_variable : (x : List ℕ) → is_variable_name x ≡ true → is_name x ≡ true
name-of_variable x e = left_of (is_name x) (begins_with_lower x) e
