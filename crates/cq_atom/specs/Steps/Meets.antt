-- Two lists of terms, each with a value for every variable.
use Rattle.std.specs.Prelude.{◌≡◌, ℕ, List, map}
use Rattle.cq_atom.specs.Value.{ValueContent, IsValue}
use Rattle.cq_atom.specs.Atom.{TermContent}
use Rattle.cq_atom.specs.declared.term.TermKind.TheVariants.{Constant, Variable}

-- What each variable stands for.
abbrev pub Values : Type 0
Values = List ℕ → ValueContent

abbrev pub value_of : Values → TermContent → ValueContent
value_of v (Constant c) = c
value_of v (Variable x) = v x

-- Some values for the variables of the one list and some for those of the other make them equal.
pub record CanMeet (xs ys : List TermContent) : Type 0 where
  pub left : Values
  pub right : Values
  pub left_valid : (x : List ℕ) → IsValue (left x)
  pub right_valid : (x : List ℕ) → IsValue (right x)
  pub same : map (value_of left) xs ≡ map (value_of right) ys

-- The terms are not two different constants.
abbrev pub MayMeet : TermContent → TermContent → Type 0
MayMeet (Constant c) (Constant d) = c ≡ d
MayMeet (Constant c) (Variable y) = Unit {0}
MayMeet (Variable x) t = Unit {0}
