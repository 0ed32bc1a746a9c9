-- The variables of a body, found one by one.
use Rattle.std.specs.Prelude.{ℕ, Bool, true, List, [], ◌∷◌, ◌++◌, if◌then◌else◌}
use Rattle.std.specs.List.{list_any}
use Rattle.std.specs.Str.{bytes_eq}
use Rattle.cq_atom.specs.declared.term.TermKind.TheVariants.{Constant, Variable}
use Rattle.cq_atom.specs.Atom.{TermContent}

-- The name at the end, where it is not there yet.
abbrev pub with_variable : List (List ℕ) → List ℕ → List (List ℕ)
with_variable seen x = if list_any (bytes_eq x) seen then seen else seen ++ (x ∷ [])

-- A constant, or a variable with one of the names.
abbrev pub is_among : List (List ℕ) → TermContent → Bool
is_among names (Constant c) = true
is_among names (Variable x) = list_any (bytes_eq x) names
