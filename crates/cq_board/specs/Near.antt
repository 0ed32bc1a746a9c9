-- Heads that nearly supply a postcondition: what a typing error looks like. (this project's profile)
use Rattle.std.specs.Prelude.{◌≡◌, ℕ, ◌+◌, ◌==◌, Bool, false, not, ◌&&◌, List, [], ◌∷◌, length, take, if◌then◌else◌, Option}
use Rattle.std.specs.List.{flat_map, enumerate_from, slice_get}
use Rattle.std.specs.List.Sorted.{IsPermutation, IsSorted}
use Rattle.std.specs.Option.{option_and_then, option_map_or}
use Rattle.std.specs.Ordering.{nat_cmp, ordering_then}
use Rattle.std.specs.Str.{bytes_eq}
use Rattle.std.specs.declared.cmp.Ordering.{Ordering}
use Rattle.cq_atom.specs.declared.term.TermKind.TheVariants.{Constant, Variable}
use Rattle.cq_atom.specs.Atom.{TermContent, AtomRecord}
use Rattle.cq_board.specs.declared.near.NearMiss.{NearMiss}
use Rattle.cq_index.specs.Index.{same_value}
use Rattle.cq_board.specs.Steps.Supply.{unifies}
use Rattle.cq_board.specs.Pool.{PendingQuery}
use Rattle.cq_board.specs.Board.{name_at, name_or_none}
use Rattle.cq_board.specs.Named.{query_named}

-- The two terms are constants, and not one.
abbrev pub differ : TermContent → TermContent → Bool
differ (Constant c) (Constant d) = not (same_value c d)
differ (Constant c) (Variable y) = false
differ (Variable x) t = false

-- At how many places two constants differ.
abbrev pub differences : List TermContent → List TermContent → ℕ
differences [] ts = 0
differences (s ∷ ss) [] = 0
differences (s ∷ ss) (t ∷ ts) = (if differ s t then 1 else 0) + differences ss ts

-- The head has the relation and the arity of the postcondition, and does not unify with it.
abbrev pub misses : AtomRecord → AtomRecord → Bool
misses wanted head = bytes_eq head.relation wanted.relation && ((length head.terms == length wanted.terms) && not (unifies head wanted))

-- A head that misses: at how many places two constants differ, the place of its query in posting order, and its place among the query's heads.
abbrev pub miss_if : AtomRecord → ℕ → ℕ × AtomRecord → List (ℕ × ℕ × ℕ)
miss_if wanted place (head, offered) = if misses wanted offered then (differences offered.terms wanted.terms, place, head) ∷ [] else []

-- All heads of pending queries that miss.
abbrev pub misses_of : AtomRecord → List PendingQuery → List (ℕ × ℕ × ℕ)
misses_of wanted pending = flat_map (λ p. flat_map (miss_if wanted p.0) (enumerate_from 0 p.1.query.heads)) (enumerate_from 0 pending)

-- By the differences, then by posting, then by head.
abbrev pub miss_cmp : ℕ × ℕ × ℕ → ℕ × ℕ × ℕ → Ordering
miss_cmp a b = ordering_then (ordering_then (nat_cmp a.0 b.0) (nat_cmp a.1 b.1)) (nat_cmp a.2 b.2)

-- The first three of the list once it is sorted.
pub record AreNearest (all nearest : List (ℕ × ℕ × ℕ)) : Type 0 where
  pub sorted : List (ℕ × ℕ × ℕ)
  pub permutation : IsPermutation all sorted
  pub ordered : IsSorted miss_cmp sorted
  pub first : nearest ≡ take 3 sorted

-- A head that misses, by the name of its query.
abbrev pub miss_named : List PendingQuery → ℕ × ℕ × ℕ → NearMiss (List ℕ)
miss_named pending miss = record { provider = name_or_none (name_at pending miss.1); head = miss.2; differences = miss.0 }

-- The same, with its name read.
abbrev pub miss_read : {N : Type 0} → (N → List ℕ) → NearMiss N → NearMiss (List ℕ)
miss_read read miss = record { provider = read miss.provider; head = miss.head; differences = miss.differences }

-- The postcondition of the pending query of that name, where there is one.
abbrev pub post_named : List ℕ → ℕ → List PendingQuery → Option AtomRecord
post_named name post pending = option_and_then (λ query. slice_get query.posts post) (query_named name pending)

-- All heads of pending queries that miss the postcondition: none, where there is no such postcondition.
abbrev pub misses_named : List ℕ → ℕ → List PendingQuery → List (ℕ × ℕ × ℕ)
misses_named name post pending = option_map_or (λ wanted. misses_of wanted pending) (post_named name post pending) []
