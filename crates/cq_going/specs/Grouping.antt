-- Groups of matched queries, and whether each of them can go. (connected components: Hopcroft, Tarjan, CACM 1973; what is told: this project's profile)
use Rattle.std.specs.Prelude.{◌≡◌, ◌⊎◌, ℕ, Bool, false, ◌==◌, ◌&&◌, List, [], ◌∷◌, ◌++◌, length, map, filter, slice_index_or, codes, if◌then◌else◌}
use Rattle.std.specs.List.{enumerate_from, flat_map, join_by}
use Rattle.cq_atom.specs.declared.edge.Edge.{Edge}
use Rattle.cq_groups.specs.Groups.{AreLabels}
use Rattle.cq_board.specs.Pool.{PoolRecord, name_of}
use Rattle.cq_board.specs.Edges.{edges_of}
use Rattle.cq_board.specs.Named.{matched_named}
use Rattle.cq_reached.specs.Reached.{CanGo}
use Rattle.cq_render.specs.Report.{line}
use Rattle.cq_render.specs.Explain.{ArePieces}
use Rattle.cq_going.specs.Reasons.{is_yes}

-- Of each pending query whether it is matched, in posting order.
abbrev pub matched_flags : PoolRecord → List Bool
matched_flags pool = map (λ name. is_yes (matched_named name pool)) (map name_of pool.pending)

-- A query stands at the place, and is matched.
abbrev pub is_flagged : List Bool → ℕ → Bool
is_flagged flags place = slice_index_or flags place false

-- The ends of the edges between flagged places: from the provider to the waiter.
abbrev pub links_between : List Bool → List Edge → List (ℕ × ℕ)
links_between flags edges = map (λ edge. (edge.provider, edge.waiter)) (filter (λ edge. is_flagged flags edge.provider && is_flagged flags edge.waiter) edges)

-- The name at a flagged place that has the label, and else none.
abbrev pub name_if : List Bool → List ℕ → ℕ → ℕ × List ℕ → List (List ℕ)
name_if flags labels label (place, name) = if is_flagged flags place && (slice_index_or labels place 0 == label) then name ∷ [] else []

-- Those of the names at flagged places that have the label, in their order.
abbrev pub names_labelled : List Bool → List ℕ → List (List ℕ) → ℕ → List (List ℕ)
names_labelled flags labels names label = flat_map (name_if flags labels label) (enumerate_from 0 names)

-- What is told of a group: whether some coordinating choice has all of its queries.
abbrev pub IsVerdict : PoolRecord → List (List ℕ) → List ℕ → Type 0
IsVerdict pool names words =
    ((words ≡ codes "can go") × CanGo pool names) ⊎ (((words ≡ codes "cannot") × (CanGo pool names → ⊥)) ⊎ (words ≡ codes "undecided"))

-- A line for a group, and none for no group.
abbrev pub IsGroupTold : PoolRecord → List (List ℕ) → List ℕ → Type 0
IsGroupTold pool [] text = text ≡ []
IsGroupTold pool (name ∷ names) text = (words : List ℕ) × IsVerdict pool (name ∷ names) words × (text ≡ line (join_by (λ n. n) (codes " ") (name ∷ names) ++ codes ": " ++ words))

-- The groups of matched queries that hang together by edges, in the order of the first of each.
abbrev pub AreGroupsTold : PoolRecord → List ℕ → Type 0
AreGroupsTold pool text =
    (labels : List ℕ) × AreLabels (links_between (matched_flags pool) (edges_of pool.pending)) (length pool.pending) labels
    × ArePieces (λ p. IsGroupTold pool (names_labelled (matched_flags pool) labels (map name_of pool.pending) p.0)) (enumerate_from 0 pool.pending) text
