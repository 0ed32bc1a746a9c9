-- Valuations, and what they make of an atom. (Gupta et al., SIGMOD 2011)
use Rattle.std.specs.Prelude.{ℕ, List, map, Option, Some, None}
use Rattle.std.specs.Str.{bytes_eq}
use Rattle.std.specs.List.{AllByRecursion}
use Rattle.std.specs.Map.{lookup}
use Rattle.cq_atom.specs.declared.term.TermKind.TheVariants.{Constant, Variable}
use Rattle.cq_atom.specs.Value.{ValueContent, IsValue}
use Rattle.cq_atom.specs.Atom.{TermContent, AtomRecord}

-- A finite map from variables' names to values, as its pairs.
abbrev pub Bindings : Type 0
Bindings = List (List ℕ × ValueContent)

-- The value that a valuation gives a variable, where it gives one.
abbrev pub value_at : Bindings → List ℕ → Option ValueContent
value_at v x = lookup (bytes_eq x) v

-- A variable by the value that is known of it, where one is.
abbrev pub constant_or : Option ValueContent → List ℕ → TermContent
constant_or None x = Variable x
constant_or (Some c) x = Constant c

-- A variable that the valuation knows becomes its value; any other term stays.
abbrev pub term_under : Bindings → TermContent → TermContent
term_under v (Constant c) = Constant c
term_under v (Variable x) = constant_or (value_at v x) x

-- An atom under a valuation: each variable that it knows is replaced.
abbrev pub under : Bindings → AtomRecord → AtomRecord
under v a = record a { terms = map (term_under v) a.terms }

-- What the valuation gives are values.
abbrev pub AreValues : Bindings → Type 0
AreValues v = AllByRecursion (λ b. IsValue b.1) v
