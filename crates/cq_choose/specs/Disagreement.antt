-- Queries that no choice can serve: under each of their groundings they await something that no matched query offers.
-- (groundings and what they offer: Gupta et al., SIGMOD 2011; disagreement: this project's profile)
use Rattle.std.specs.Prelude.{◌≡◌, ◌<◌, ℕ, true, List, take, Some}
use Rattle.std.specs.List.{All, Contains, slice_get}
use Rattle.std.specs.Option.{option_and_then}
use Rattle.cq_atom.specs.Value.{ValueContent}
use Rattle.cq_atom.specs.Atom.{AtomRecord}
use Rattle.cq_atom.specs.declared.edge.Edge.{Edge}
use Rattle.cq_board.specs.Pool.{PoolRecord}
use Rattle.cq_board.specs.Edges.{edges_of}
use Rattle.cq_board.specs.Board.{is_matched_at, name_at}
use Rattle.cq_board.specs.Named.{query_named, matched_named, groundings_named}
use Rattle.cq_board.specs.Choice.{ChoiceRecord, awaited_by, offered_by, IsGrounded}

-- The query at a place is concerned: it is matched, and has one of the names, or an edge leads from it to one that is concerned.
pub data IsConcerned (pool : PoolRecord) (names : List (List ℕ)) : ℕ → Type 0 where
  Asked : (place : ℕ) (name : List ℕ) → name_at pool.pending place ≡ Some name → Contains names name → is_matched_at pool place ≡ true → IsConcerned pool names place
  Serving : (edge : Edge) → Contains (edges_of pool.pending) edge → IsConcerned pool names edge.waiter → is_matched_at pool edge.provider ≡ true → IsConcerned pool names edge.provider

-- A matched query offers the atom under one of its groundings.
pub record IsOffered (pool : PoolRecord) (atom : AtomRecord) : Type 0 where
  pub choice : ChoiceRecord
  pub grounded : IsGrounded pool choice
  pub matched : matched_named choice.name pool ≡ Some true
  pub offers : Contains (offered_by (query_named choice.name pool.pending) choice.values) atom

-- What the query of that name awaits under the values.
abbrev pub awaited_named : PoolRecord → List ℕ → List ValueContent → List AtomRecord
awaited_named pool name values = awaited_by (query_named name pool.pending) values

-- Under none of its groundings everything is offered that the query of that name awaits.
abbrev pub AgreesWithNone : PoolRecord → List ℕ → Type 0
AgreesWithNone pool name = (values : List ValueContent) → IsGrounded pool (record { name = name; values = values }) → All (IsOffered pool) (awaited_named pool name values) → ⊥

-- The query at that place has that name, is concerned, and agrees with none.
pub record IsDisagreeing (pool : PoolRecord) (names : List (List ℕ)) (place : ℕ) (name : List ℕ) : Type 0 where
  pub named : name_at pool.pending place ≡ Some name
  pub concerned : IsConcerned pool names place
  pub alone : AgreesWithNone pool name

-- The atom of that number is not offered, and all before it are.
pub record IsFirstLacking (pool : PoolRecord) (atoms : List AtomRecord) (number : ℕ) : Type 0 where
  pub atom : AtomRecord
  pub listed : slice_get atoms number ≡ Some atom
  pub lacking : IsOffered pool atom → ⊥
  pub before : All (IsOffered pool) (take number atoms)

-- The first concerned query that agrees with none, its first grounding, and the first postcondition that is not offered under it.
pub record IsDisagreement (pool : PoolRecord) (names : List (List ℕ)) (name : List ℕ) (values : List ValueContent) (post : ℕ) : Type 0 where
  pub place : ℕ
  pub here : IsDisagreeing pool names place name
  pub first : (other : ℕ) (earlier : List ℕ) → other < place → IsDisagreeing pool names other earlier → ⊥
  pub grounding : option_and_then (λ lists. slice_get lists 0) (groundings_named name pool) ≡ Some values
  pub lacks : IsFirstLacking pool (awaited_named pool name values) post
