-- Which queries are concerned, by flags at their places.
use Rattle.std.specs.Prelude.{◌≡◌, ℕ, ⊤, Bool, true, false, not, ◌&&◌, List, slice_index_or, Option, Some, None}
use Rattle.std.specs.List.{All}
use Rattle.cq_atom.specs.Query.{QueryRecord}
use Rattle.cq_board.specs.Pool.{PoolRecord}
use Rattle.cq_board.specs.Board.{is_matched_at, place_of}
use Rattle.cq_board.specs.Named.{matched_named}
use Rattle.cq_board.specs.Choice.{ChoiceRecord}
use Rattle.cq_board.specs.Steps.Choices.{IsValid}
use Rattle.cq_choose.specs.Choosing.{IsChoiceFor}
use Rattle.cq_choose.specs.Disagreement.{IsConcerned}

-- The flag at the place is set: no query that is concerned stands there.
abbrev pub is_spare : List Bool → ℕ → Bool
is_spare spare place = slice_index_or spare place false

-- Whether the query is matched; none is not.
abbrev pub told : Option Bool → Bool
told None = false
told (Some matched) = matched

-- The constants of its heads and postconditions are values.
pub record IsKnown (query : QueryRecord) : Type 0 where
  pub heads : All (λ a. All IsValid a.terms) query.heads
  pub posts : All (λ a. All IsValid a.terms) query.posts

abbrev pub IfKnown : Option QueryRecord → Type 0
IfKnown None = ⊤
IfKnown (Some query) = IsKnown query

-- The query of that name is matched, and its flag is not set.
abbrev pub is_taken : PoolRecord → List Bool → ℕ → List ℕ → Bool
is_taken pool spare place name = told (matched_named name pool) && not (is_spare spare place)

-- What is chosen is for a query that is taken.
pub record IsTaken (pool : PoolRecord) (spare : List Bool) (choice : ChoiceRecord) : Type 0 where
  pub taken : (place : ℕ) → place_of choice.name pool.pending ≡ Some place → is_taken pool spare place choice.name ≡ true

-- Where anything is chosen for the names, some is that leaves these queries out.
abbrev pub IsEnough : PoolRecord → List (List ℕ) → List Bool → Type 0
IsEnough pool names spare = (choices : List ChoiceRecord) → IsChoiceFor pool names choices → (kept : List ChoiceRecord) × IsChoiceFor pool names kept × All (IsTaken pool spare) kept

-- The matched queries that have no flag are those that are concerned; and what is pending is known.
pub record IsExact (pool : PoolRecord) (names : List (List ℕ)) (spare : List Bool) : Type 0 where
  pub taken : (p : ℕ) → is_matched_at pool p ≡ true → is_spare spare p ≡ false → IsConcerned pool names p
  pub concerned : (p : ℕ) → IsConcerned pool names p → is_spare spare p ≡ false
  pub known : All (λ p. IsKnown p.query) pool.pending
