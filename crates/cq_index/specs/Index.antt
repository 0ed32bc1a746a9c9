-- An index of atoms, and which of its atoms may unify with a given one. (this project's profile)
use Rattle.std.specs.Prelude.{◌≡◌, ℕ, Bool, true, false, ◌&&◌, nat_eq, List, [], ◌∷◌, length, map, filter, Option, Some, None}
use Rattle.std.specs.FinMap.{FinMap, entries, get}
use Rattle.std.specs.Option.{option_map_or}
use Rattle.std.specs.Ordering.{nat_cmp, int_eq}
use Rattle.std.specs.Str.{bytes_eq}
use Rattle.cq_atom.specs.declared.value.Content.TheVariants.{Number, Text}
use Rattle.cq_atom.specs.Value.{ValueContent}
use Rattle.cq_atom.specs.Atom.{TermContent, AtomRecord, constant_of}
use Rattle.cq_atom.specs.Unify.{Unify}

-- A finite map from places to atoms.
abbrev pub AtomMap : Type 0
AtomMap = FinMap nat_cmp AtomRecord

-- The constant that the terms begin with, where they begin with one.
abbrev pub leading_constant : List TermContent → Option ValueContent
leading_constant [] = None
leading_constant (t ∷ ts) = constant_of t

-- The constant that an atom has as its first argument, where it has one there.
abbrev pub first_constant : AtomRecord → Option ValueContent
first_constant a = leading_constant a.terms

-- The same number, or the same text.
abbrev pub same_value : ValueContent → ValueContent → Bool
same_value (Number m) (Number n) = int_eq m n
same_value (Number m) (Text t) = false
same_value (Text s) (Number n) = false
same_value (Text s) (Text t) = bytes_eq s t

-- Not two different constants.
abbrev pub may_agree : Option ValueContent → Option ValueContent → Bool
may_agree None o = true
may_agree (Some v) None = true
may_agree (Some v) (Some w) = same_value v w

-- The atom may unify with the given one, by relation, arity and first argument: a test of no more than these.
abbrev pub is_candidate : AtomRecord → AtomRecord → Bool
is_candidate given a = bytes_eq a.relation given.relation && (nat_eq (length a.terms) (length given.terms) && may_agree (first_constant a) (first_constant given))

-- An atom at the place passes that test.
abbrev pub is_candidate_at : AtomMap → AtomRecord → ℕ → Bool
is_candidate_at index given place = option_map_or (is_candidate given) (get index place) false

-- The places of the atoms that pass that test, rising.
abbrev pub candidates_of : AtomMap → AtomRecord → List ℕ
candidates_of index given = map (λ e. e.0) (filter (λ e. is_candidate given e.1) (entries index))

-- The same relation, the same arity, and not two different constants as first arguments.
pub record IsCandidate (given a : AtomRecord) : Type 0 where
  pub relation : a.relation ≡ given.relation
  pub arity : length a.terms ≡ length given.terms
  pub first : (v w : ValueContent) → first_constant a ≡ Some v → first_constant given ≡ Some w → v ≡ w

-- An atom at the place is a candidate.
abbrev pub IsCandidateAt : AtomMap → AtomRecord → ℕ → Type 0
IsCandidateAt index given place = (a : AtomRecord) × (get index place ≡ Some a) × IsCandidate given a

-- An atom at the place unifies with the given one.
abbrev pub IsPartnerAt : AtomMap → AtomRecord → ℕ → Type 0
IsPartnerAt index given place = (a : AtomRecord) × (get index place ≡ Some a) × Unify given a
