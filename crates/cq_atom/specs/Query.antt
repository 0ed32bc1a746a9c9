-- Queries, their variables, and why three lists of atoms make none.
-- (the form `{posts} heads <- body` and the range restriction: Gupta et al., SIGMOD 2011; the limits: this project's profile)
use Rattle.std.specs.Prelude.{ℕ, ◌+◌, Bool, true, false, not, nat_le, List, [], ◌∷◌, length, filter, if◌then◌else◌, Option, Some, None, position}
use Rattle.std.specs.List.{list_any, list_all, filter_map, flat_map}
use Rattle.std.specs.Str.{bytes_eq}
use Rattle.cq_atom.specs.declared.term.TermKind.TheVariants.{Constant, Variable}
use Rattle.cq_atom.specs.declared.fault.Part.{Part}
use Rattle.cq_atom.specs.declared.fault.Part.TheVariants.{Posts, Heads, Body}
use Rattle.cq_atom.specs.declared.fault.Bad.{Bad}
use Rattle.cq_atom.specs.declared.fault.Bad.TheVariants.{TooMany, NoHead, Unbound}
use Rattle.cq_atom.specs.Limits.{max_atoms}
use Rattle.cq_atom.specs.Atom.{TermContent, AtomRecord, variable_of}

-- Postconditions, heads and body, each a list of atoms.
pub record QueryRecord : Type 0 where
  pub posts : List AtomRecord
  pub heads : List AtomRecord
  pub body : List AtomRecord

-- The names of the variables of an atom, each as often as it occurs.
abbrev pub occurrences : AtomRecord → List (List ℕ)
occurrences a = filter_map variable_of a.terms

-- Each name once, where it comes first.
abbrev pub firsts : List (List ℕ) → List (List ℕ)
firsts [] = []
firsts (x ∷ xs) = x ∷ filter (λ y. not (bytes_eq x y)) (firsts xs)

-- The variables of a body, in order of first occurrence.
abbrev pub variables_of : List AtomRecord → List (List ℕ)
variables_of body = firsts (flat_map occurrences body)

-- The term is the variable of that name.
abbrev pub is_variable : List ℕ → TermContent → Bool
is_variable x (Constant c) = false
is_variable x (Variable y) = bytes_eq x y

-- Some atom of the body has the variable of that name.
abbrev pub binds : List AtomRecord → List ℕ → Bool
binds body x = list_any (λ a. list_any (is_variable x) a.terms) body

-- A constant, or a variable that some atom of the body has.
abbrev pub is_bound : List AtomRecord → TermContent → Bool
is_bound body (Constant c) = true
is_bound body (Variable x) = binds body x

-- The body has each variable of the atoms.
abbrev pub binds_all : List AtomRecord → List AtomRecord → Bool
binds_all body atoms = list_all (λ a. list_all (is_bound body) a.terms) atoms

-- The place of an atom's first term that is not bound.
abbrev pub unbound_term : List AtomRecord → AtomRecord → Option ℕ
unbound_term body a = position (λ t. not (is_bound body t)) a.terms

-- The first term that is not bound, of atoms of which the first has the place i.
abbrev pub first_unbound : Part → List AtomRecord → ℕ → List AtomRecord → Option Bad
first_unbound part body i [] = None
first_unbound part body i (a ∷ rest) = elim (unbound_term body a) [ None ↦ first_unbound part body (i + 1) rest | Some t ↦ Some (Unbound part i t) ]

-- The first of two faults, where there is one.
abbrev pub or_else : Option Bad → Option Bad → Option Bad
or_else None o = o
or_else (Some b) o = Some b

-- A part of a query has at most 16 atoms.
abbrev pub too_many : Part → List AtomRecord → Option Bad
too_many part atoms = if nat_le (length atoms) max_atoms then None else Some (TooMany part)

-- A query has a head.
abbrev pub no_head : List AtomRecord → Option Bad
no_head [] = Some NoHead
no_head (a ∷ rest) = None

-- Why the lists make no query: the first of these that applies.
abbrev pub query_fault : List AtomRecord → List AtomRecord → List AtomRecord → Option Bad
query_fault posts heads body =
    or_else (too_many Posts posts) (or_else (too_many Heads heads) (or_else (too_many Body body) (or_else (no_head heads)
    (or_else (first_unbound Posts body 0 posts) (first_unbound Heads body 0 heads)))))
