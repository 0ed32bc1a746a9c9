-- The work that is counted of an edit: tests of a head against a postcondition, visits of a query's groundings, and edges that lose their matched provider. (this project's profile)
use Rattle.std.specs.Prelude.{ℕ, ◌+◌, ◌-◌, ◌^◌, Bool, false, not, ◌&&◌, List, ◌++◌, Option, Some, None, min, sum_by, count_by}
use Rattle.std.specs.List.{flat_map}
use Rattle.std.specs.Option.{option_map_or}
use Rattle.cq_atom.specs.Atom.{AtomRecord}
use Rattle.cq_atom.specs.Query.{QueryRecord}
use Rattle.cq_ground.specs.Grounding.{reads}
use Rattle.cq_index.specs.Index.{is_candidate}
use Rattle.cq_atom.specs.declared.edge.Edge.{Edge}
use Rattle.cq_atom.specs.declared.edit.EditKind.TheVariants.{Post, Withdraw, Insert, Delete}
use Rattle.cq_board.specs.declared.edit.Why.{Why}
use Rattle.cq_board.specs.Pool.{PendingQuery, PoolRecord}
use Rattle.cq_board.specs.Edges.{edges_of}
use Rattle.cq_board.specs.Board.{is_matched_at, name_at, name_or_none}
use Rattle.cq_board.specs.Named.{matched_named}
use Rattle.cq_atom.specs.Edit.{Edit}
use Rattle.cq_board.specs.Edits.{why, edited}

-- What the pending queries offer.
abbrev pub heads_of : List PendingQuery → List AtomRecord
heads_of pending = flat_map (λ p. p.query.heads) pending

-- What the pending queries wait for.
abbrev pub posts_of : List PendingQuery → List AtomRecord
posts_of pending = flat_map (λ p. p.query.posts) pending

-- How many pairs of one of the given atoms and one of the others have the same relation, the same arity, and not two different constants as first arguments.
abbrev pub pairs : List AtomRecord → List AtomRecord → ℕ
pairs given others = sum_by (λ atom. count_by (is_candidate atom) others) given

-- How many such pairs of a head and a postcondition a query makes with the pending ones and with itself: each of its postconditions with all heads, its own
-- among them, and each of its heads with the postconditions of the pending ones.
abbrev pub candidates : List PendingQuery → QueryRecord → ℕ
candidates pending query = pairs query.posts (heads_of pending ++ query.heads) + pairs query.heads (posts_of pending)

-- How many pending queries name the relation in their body, each counted once.
abbrev pub named : List PendingQuery → List ℕ → ℕ
named pending relation = count_by (λ p. reads p.query.body relation) pending

-- A 64-bit count that has gone up by so much, or to the greatest number and no further.
abbrev pub raised : ℕ → ℕ → ℕ
raised count more = min (count + more) (2 ^ 64 - 1)

-- What an edit counts: nothing where it is refused.
abbrev pub if_accepted : Option Why → ℕ → ℕ
if_accepted None count = count
if_accepted (Some reason) count = 0

-- The tests of an accepted edit: those of a query that comes, and none where one goes, or a row comes or goes.
abbrev pub tests_made : List PendingQuery → Edit → ℕ
tests_made pending (Post name query) = candidates pending query
tests_made pending _ = 0

-- The visits of an accepted edit: one of a query that comes, none where one goes, and one of each query that names the relation of a row that comes or goes.
abbrev pub visits_made : List PendingQuery → Edit → ℕ
visits_made pending (Post name query) = 1
visits_made pending (Withdraw name) = 0
visits_made pending (Insert row) = named pending row.relation
visits_made pending (Delete row) = named pending row.relation

-- How many tests an edit takes.
abbrev pub tests_of : PoolRecord → Edit → ℕ
tests_of pool edit = if_accepted (why pool edit) (tests_made pool.pending edit)

-- How many visits an edit takes.
abbrev pub visits_of : PoolRecord → Edit → ℕ
visits_of pool edit = if_accepted (why pool edit) (visits_made pool.pending edit)

-- ---- changes

-- The query of that name is pending and matched.
abbrev pub is_matched_under : List ℕ → PoolRecord → Bool
is_matched_under name pool = option_map_or (λ matched. matched) (matched_named name pool) false

-- The edge's provider was matched in the pool before, and is unmatched or absent in the one after.
abbrev pub loses_provider : PoolRecord → PoolRecord → Edge → Bool
loses_provider before after edge = is_matched_at before edge.provider && not (is_matched_under (name_or_none (name_at before.pending edge.provider)) after)

-- How many edges of the pool before have lost their matched provider in the one after.
abbrev pub lost : PoolRecord → PoolRecord → ℕ
lost before after = count_by (loses_provider before after) (edges_of before.pending)

-- The changes of an accepted edit: one of each edge that loses its matched provider where a query or a row goes, and none where one comes.
abbrev pub changes_made : PoolRecord → Edit → ℕ
changes_made pool (Withdraw name) = lost pool (edited pool (Withdraw name))
changes_made pool (Delete row) = lost pool (edited pool (Delete row))
changes_made pool _ = 0

-- How many changes an edit makes.
abbrev pub changes_of : PoolRecord → Edit → ℕ
changes_of pool edit = if_accepted (why pool edit) (changes_made pool edit)
