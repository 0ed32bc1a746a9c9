-- What the types of names, terms, atoms, rows and queries keep of each value; so of the parts of a command. (this project's profile)
use Rattle.std.specs.Prelude.{◌≡◌, ◌≤◌, length, IsTrue, None}
use Rattle.std.specs.List.{All}
use Rattle.cq_atom.specs.declared.term.TermKind.TheVariants.{Constant, Variable}
use Rattle.cq_atom.specs.Limits.{max_arity}
use Rattle.cq_atom.specs.Text.{is_name, is_variable_name, is_relation_name}
use Rattle.cq_atom.specs.Value.{IsValue}
use Rattle.cq_atom.specs.Atom.{TermContent, AtomRecord, RowRecord}
use Rattle.cq_atom.specs.Query.{QueryRecord, query_fault}
use Rattle.cq_atom.specs.declared.edit.EditKind.TheVariants.{Post, Withdraw, Insert, Delete}
use Rattle.cq_text.specs.declared.command.CommandKind.TheVariants.{Setup, Edit}
use Rattle.cq_text.specs.declared.command.SetupLine.TheVariants.{Relation}
use Rattle.cq_text.specs.Grammar.{CommandContent}

-- A constant that is a value, or a variable with a variable's name.
abbrev pub IsSoundTerm : TermContent → Type 0
IsSoundTerm (Constant value) = IsValue value
IsSoundTerm (Variable name) = IsTrue (is_variable_name name)

-- An atom that has a relation's name and 1 to 16 terms.
pub record IsSoundAtom (a : AtomRecord) : Type 0 where
  pub relation : IsTrue (is_relation_name a.relation)
  pub some : 1 ≤ length a.terms
  pub few : length a.terms ≤ max_arity
  pub terms : All IsSoundTerm a.terms

-- A row that has a relation's name and 1 to 16 values.
pub record IsSoundRow (r : RowRecord) : Type 0 where
  pub relation : IsTrue (is_relation_name r.relation)
  pub some : 1 ≤ length r.values
  pub few : length r.values ≤ max_arity
  pub values : All IsValue r.values

-- Atoms that make a query.
pub record IsSoundQuery (q : QueryRecord) : Type 0 where
  pub query : query_fault q.posts q.heads q.body ≡ None
  pub posts : All IsSoundAtom q.posts
  pub heads : All IsSoundAtom q.heads
  pub body : All IsSoundAtom q.body

-- A command's names are names, a declared relation's name is one of a relation, and its query or row is sound.
abbrev pub IsSoundCommand : CommandContent → Type 0
IsSoundCommand (Setup (Relation name arity)) = IsTrue (is_relation_name name)
IsSoundCommand (Edit (Post name query)) = IsTrue (is_name name) × IsSoundQuery query
IsSoundCommand (Edit (Withdraw name)) = IsTrue (is_name name)
IsSoundCommand (Edit (Insert row)) = IsSoundRow row
IsSoundCommand (Edit (Delete row)) = IsSoundRow row
IsSoundCommand _ = Unit {0}
