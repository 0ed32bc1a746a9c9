-- Coordinating choices: values for some of the pending queries, with which they serve one another.
-- (coordinating sets: Gupta et al., SIGMOD 2011; values by a query's name: this project's profile)
use Rattle.std.specs.Prelude.{◌≡◌, ℕ, List, [], map, zip, Option, Some, None}
use Rattle.std.specs.List.{All, Contains, IsDistinct, flat_map}
use Rattle.std.specs.Str.{bytes_eq}
use Rattle.cq_atom.specs.Value.{ValueContent}
use Rattle.cq_atom.specs.Atom.{AtomRecord}
use Rattle.cq_atom.specs.Query.{QueryRecord, variables_of}
use Rattle.cq_atom.specs.Valuation.{Bindings, under}
use Rattle.cq_ground.specs.Grounding.{IsGrounding}
use Rattle.cq_board.specs.Pool.{PendingQuery, PoolRecord}
use Rattle.cq_board.specs.Named.{query_named}

-- A query's name, and values for the variables of its body.
pub record ChoiceRecord : Type 0 where
  pub name : List ℕ
  pub values : List ValueContent

-- The name for which is chosen.
abbrev pub chosen_name : ChoiceRecord → List ℕ
chosen_name choice = choice.name

-- The variables of the query's body, in their order, bound to the values.
abbrev pub bound : QueryRecord → List ValueContent → Bindings
bound query values = zip (variables_of query.body) values

-- What a query awaits under the values: its postconditions.
abbrev pub awaited_by : Option QueryRecord → List ValueContent → List AtomRecord
awaited_by None values = []
awaited_by (Some query) values = map (under (bound query values)) query.posts

-- What a query offers under the values: its heads.
abbrev pub offered_by : Option QueryRecord → List ValueContent → List AtomRecord
offered_by None values = []
offered_by (Some query) values = map (under (bound query values)) query.heads

-- What the members of a choice await, each under its values.
abbrev pub awaited : List PendingQuery → List ChoiceRecord → List AtomRecord
awaited pending choices = flat_map (λ c. awaited_by (query_named c.name pending) c.values) choices

-- What the members of a choice offer, each under its values.
abbrev pub offered : List PendingQuery → List ChoiceRecord → List AtomRecord
offered pending choices = flat_map (λ c. offered_by (query_named c.name pending) c.values) choices

-- The name is a pending query's, and the values are a grounding of it.
pub record IsGrounded (pool : PoolRecord) (choice : ChoiceRecord) : Type 0 where
  pub query : QueryRecord
  pub pending : query_named choice.name pool.pending ≡ Some query
  pub grounding : IsGrounding query.body pool.tables.rows choice.values

-- Distinct pending queries, each with a grounding of it, under which everything that one of them awaits is offered by one of them.
pub record IsCoordinating (pool : PoolRecord) (choices : List ChoiceRecord) : Type 0 where
  pub distinct : IsDistinct bytes_eq (map chosen_name choices)
  pub grounded : All (IsGrounded pool) choices
  pub served : All (Contains (offered pool.pending choices)) (awaited pool.pending choices)
