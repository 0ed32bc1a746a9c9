-- Links between pending queries: which head unifies with which postcondition.
-- (edges of the unifiability graph: Gupta et al., SIGMOD 2011; one edge for each pair of a head and a postcondition, provider and waiter may be one query,
-- and which pairs are tested: this project's profile)
use Rattle.std.specs.Prelude.{◌≡◌, ◌⊎◌, ℕ, ◌+◌, List, [], Some, slice_get, sum_by, count_by}
use Rattle.std.specs.List.{flat_map}
use Rattle.std.specs.Option.{option_map_or}
use Rattle.std.specs.Ordering.{nat_cmp}
use Rattle.std.specs.FinMap.{FinMap, get, insert, entries}
use Rattle.cq_atom.specs.Atom.{AtomRecord}
use Rattle.cq_atom.specs.Query.{QueryRecord}
use Rattle.cq_atom.specs.Unify.{Unify}
use Rattle.cq_atom.specs.declared.edge.Edge.{Edge}
use Rattle.cq_index.specs.Index.{is_candidate}

-- The atoms by which a query is linked to queries: what it offers and what it waits for, each in order.
pub record Ends : Type 0 where
  pub heads : List AtomRecord
  pub posts : List AtomRecord

-- A finite map from places to the ends of the queries that stand there.
abbrev pub LinkMap : Type 0
LinkMap = FinMap nat_cmp Ends

-- The ends of a query.
abbrev pub ends_of : QueryRecord → Ends
ends_of query = record { heads = query.heads; posts = query.posts }

-- What the query at the place offers; nothing where none stands.
abbrev pub heads_at : LinkMap → ℕ → List AtomRecord
heads_at links place = option_map_or (λ ends. ends.heads) (get links place) []

-- What the query at the place waits for; nothing where none stands.
abbrev pub posts_at : LinkMap → ℕ → List AtomRecord
posts_at links place = option_map_or (λ ends. ends.posts) (get links place) []

-- The edge leads from a head of its provider to a postcondition of its waiter, and the two unify.
pub record IsLink (links : LinkMap) (edge : Edge) : Type 0 where
  pub offered : AtomRecord
  pub wanted : AtomRecord
  pub head : slice_get (heads_at links edge.provider) edge.head ≡ Some offered
  pub post : slice_get (posts_at links edge.waiter) edge.post ≡ Some wanted
  pub unify : Unify offered wanted

-- The query at the place is the edge's provider, or its waiter, or both.
abbrev pub Touches : ℕ → Edge → Type 0
Touches place edge = (edge.provider ≡ place) ⊎ (edge.waiter ≡ place)

-- The heads of all queries.
abbrev pub all_heads : LinkMap → List AtomRecord
all_heads links = flat_map (λ entry. entry.1.heads) (entries links)

-- The postconditions of all queries.
abbrev pub all_posts : LinkMap → List AtomRecord
all_posts links = flat_map (λ entry. entry.1.posts) (entries links)

-- How many of the atoms may unify with the given one, by relation, arity and first argument.
abbrev pub candidate_count : List AtomRecord → AtomRecord → ℕ
candidate_count atoms given = count_by (is_candidate given) atoms

-- How many pairs of a head and a postcondition come to be tested with a new query: each of its postconditions with all heads, its own among them, and
-- each of its heads with the postconditions that were there; and of these pairs those that may unify by relation, arity and first argument.
abbrev pub candidate_pairs : LinkMap → ℕ → Ends → ℕ
candidate_pairs links place new = sum_by (candidate_count (all_heads (insert links place new))) new.posts + sum_by (candidate_count (all_posts links)) new.heads
