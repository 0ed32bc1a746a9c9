-- The graph of a board with its groups in boxes. (the language: Graphviz; which queries are in one box: this project's profile)
use Rattle.std.specs.Prelude.{◌≡◌, ℕ, Bool, ◌&&◌, List, [], ◌++◌, length, slice_index_or, codes, decimal, if◌then◌else◌}
use Rattle.std.specs.List.{enumerate_from, flat_map}
use Rattle.cq_groups.specs.Groups.{AreLabels}
use Rattle.cq_board.specs.Pool.{PoolRecord}
use Rattle.cq_board.specs.Edges.{edges_of}
use Rattle.cq_render.specs.Graph.{graph_of}
use Rattle.cq_going.specs.Grouping.{matched_flags, is_flagged, links_between}

-- A query stands in the box of that number. What several lines put into one box stands there together.
abbrev pub boxed : ℕ → ℕ → List ℕ
boxed label place = codes "  subgraph cluster_" ++ decimal label ++ codes " { q" ++ decimal place ++ codes "; }\n"

-- A query that is drawn and matched stands in the box of its group, whose number is that of the first query of the group.
abbrev pub box_of : (ℕ → Bool) → List Bool → List ℕ → ℕ → List ℕ
box_of drawn flags labels place = if drawn place && is_flagged flags place then boxed (slice_index_or labels place 0) place else []

-- The graph of the queries that are drawn, with the groups of matched queries that hang together by edges in boxes.
abbrev pub IsBoxed : (ℕ → Bool) → PoolRecord → List ℕ → Type 0
IsBoxed drawn pool text =
    (labels : List ℕ) × AreLabels (links_between (matched_flags pool) (edges_of pool.pending)) (length pool.pending) labels
    × (text ≡ graph_of drawn (flat_map (λ query. box_of drawn (matched_flags pool) labels query.0) (enumerate_from 0 pool.pending)) pool)
