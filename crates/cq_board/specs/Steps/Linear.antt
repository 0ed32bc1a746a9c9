-- Atoms in which no variable stands twice.
use Rattle.std.specs.Prelude.{◌≡◌, Bool, false, List}
use Rattle.std.specs.List.{All, AllPairs}
use Rattle.std.specs.Str.{bytes_eq}
use Rattle.cq_atom.specs.declared.term.TermKind.TheVariants.{Constant, Variable}
use Rattle.cq_atom.specs.Value.{IsValue}
use Rattle.cq_atom.specs.Atom.{TermContent}

-- The two terms are one variable.
abbrev pub is_one_variable : TermContent → TermContent → Bool
is_one_variable (Constant c) t = false
is_one_variable (Variable x) (Constant d) = false
is_one_variable (Variable x) (Variable y) = bytes_eq x y

-- A constant is a value.
abbrev pub IsSoundTerm : TermContent → Type 0
IsSoundTerm (Constant c) = IsValue c
IsSoundTerm (Variable x) = Unit {0}

-- No variable stands at two places, and each constant is a value.
pub record IsLinear (terms : List TermContent) : Type 0 where
  pub apart : AllPairs (λ s t. is_one_variable s t ≡ false) terms
  pub sound : All IsSoundTerm terms
