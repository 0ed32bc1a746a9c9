-- Terms, atoms and rows, and why parts make none.
-- (an atom over constants and variables: Gupta et al., SIGMOD 2011; the limits: this project's profile)
use Rattle.std.specs.Prelude.{ℕ, Bool, true, ◌&&◌, nat_le, List, map, if◌then◌else◌, Option, Some, None}
use Rattle.cq_atom.specs.declared.term.TermKind.{TermKind}
use Rattle.cq_atom.specs.declared.term.TermKind.TheVariants.{Constant, Variable}
use Rattle.cq_atom.specs.declared.fault.Bad.{Bad}
use Rattle.cq_atom.specs.declared.fault.Bad.TheVariants.{BadName, BadArity}
use Rattle.cq_atom.specs.Limits.{max_arity}
use Rattle.cq_atom.specs.Text.{is_relation_name, is_variable_name}
use Rattle.cq_atom.specs.Value.{ValueContent}

-- A constant, or a variable by its name.
abbrev pub TermContent : Type 0
TermContent = TermKind ValueContent (List ℕ)

-- A variable has a variable's name; which constants there are is said of values.
abbrev pub is_term : TermContent → Bool
is_term (Constant v) = true
is_term (Variable x) = is_variable_name x

-- The value that a term is, where it is a constant.
abbrev pub constant_of : TermContent → Option ValueContent
constant_of (Constant v) = Some v
constant_of (Variable x) = None

-- The name that a term is, where it is a variable.
abbrev pub variable_of : TermContent → Option (List ℕ)
variable_of (Constant v) = None
variable_of (Variable x) = Some x

-- An atom: a relation's name over terms.
pub record AtomRecord : Type 0 where
  pub relation : List ℕ
  pub terms : List TermContent

-- A row: a relation's name over values.
pub record RowRecord : Type 0 where
  pub relation : List ℕ
  pub values : List ValueContent

-- A row is an atom without variables.
abbrev pub atom_of_row : RowRecord → AtomRecord
atom_of_row r = record { relation = r.relation; terms = map Constant r.values }

-- From 1 to 16 terms or values.
abbrev pub is_arity : ℕ → Bool
is_arity n = nat_le 1 n && nat_le n max_arity

-- Why a relation's name over that many terms or values makes nothing: the name is looked at first.
abbrev pub arity_fault : List ℕ → ℕ → Option Bad
arity_fault relation count = if is_relation_name relation then (if is_arity count then None else Some BadArity) else Some BadName
