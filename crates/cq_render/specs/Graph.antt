-- The graph of a pool in the language of Graphviz: a text made of whole lines. (this project's profile)
use Rattle.std.specs.Prelude.{◌≡◌, ◌↔◌, ℕ, Bool, true, List, [], ◌∷◌, ◌++◌, length, map, codes, decimal, if◌then◌else◌}
use Rattle.std.specs.List.{flat_map, enumerate_from, list_any}
use Rattle.std.specs.Str.{bytes_eq}
use Rattle.cq_atom.specs.Atom.{AtomRecord}
use Rattle.cq_text.specs.Print.{escaped, printed_atom}
use Rattle.cq_atom.specs.declared.edge.Edge.{Edge}
use Rattle.cq_match.specs.Graph.{edges_to, is_crowd}
use Rattle.cq_board.specs.Pool.{PendingQuery, PoolRecord}
use Rattle.cq_board.specs.Edges.{edges_of}
use Rattle.cq_board.specs.Board.{is_matched_at}
use Rattle.cq_closure.specs.Closure.{is_set, IsReached}
use Rattle.cq_render.specs.declared.drawn.Drawn.{Drawn}
use Rattle.cq_render.specs.declared.drawn.Drawn.TheVariants.{All, Flagged}
use Rattle.cq_render.specs.Report.{state_word}

-- A statement on a line of its own.
abbrev pub statement : List ℕ → List ℕ
statement words = codes "  " ++ words ++ codes ";\n"

-- The border of a query that waits is dashed.
abbrev pub border : Bool → List ℕ
border matched = if matched then [] else codes ", style=dashed"

-- A query: a box with its name, which has nothing to escape, and below that whether it is matched.
abbrev pub box : ℕ → List ℕ → Bool → List ℕ
box place name matched =
    statement (codes "q" ++ decimal place ++ codes " [label=\"" ++ name ++ codes "\\n" ++ state_word matched ++ codes "\", shape=box" ++ border matched ++ codes "]")

-- The box of a query of a pool, with its place.
abbrev pub query_box : PoolRecord → ℕ × PendingQuery → List ℕ
query_box pool (place, posted) = box place posted.name (is_matched_at pool place)

-- The end of an edge's label, and how the edge is drawn.
abbrev pub crowd_mark : Bool → List ℕ
crowd_mark crowded = if crowded then codes " crowded\", style=bold" else codes "\""

-- An edge from the provider to who waits, with the places of the head and of the postcondition.
abbrev pub arrow : Bool → Edge → List ℕ
arrow crowded edge =
    statement (codes "q" ++ decimal edge.provider ++ codes " -> q" ++ decimal edge.waiter ++ codes " [label=\"head " ++ decimal edge.head ++ codes ", post " ++ decimal edge.post ++ crowd_mark crowded ++ codes "]")

-- The node that stands for the want of a provider.
abbrev pub gap_box : ℕ → ℕ → List ℕ
gap_box waiter post = statement (codes "n" ++ decimal waiter ++ codes "_" ++ decimal post ++ codes " [label=\"no provider\", shape=plaintext]")

-- The edge from it to who waits, with the postcondition as it stands between quotes.
abbrev pub gap_arrow : ℕ → ℕ → List ℕ → List ℕ
gap_arrow waiter post words =
    statement (codes "n" ++ decimal waiter ++ codes "_" ++ decimal post ++ codes " -> q" ++ decimal waiter ++ codes " [label=\"post " ++ decimal post ++ codes " " ++ words ++ codes "\", style=dotted]")

-- A postcondition, by its providers: an edge for each, or what tells that there is none.
abbrev pub supply : ℕ → ℕ × AtomRecord → List Edge → List ℕ
supply waiter (post, wanted) [] = gap_box waiter post ++ gap_arrow waiter post (escaped (printed_atom wanted))
supply waiter (post, wanted) (edge ∷ edges) = flat_map (arrow (is_crowd (length (edge ∷ edges)))) (edge ∷ edges)

-- The postconditions of a query, in order.
abbrev pub supplies : List PendingQuery → ℕ × PendingQuery → List ℕ
supplies pending (waiter, posted) =
    flat_map (λ post. supply waiter post (edges_to waiter post.0 (edges_of pending))) (enumerate_from 0 posted.query.posts)

-- A query has one of the names.
abbrev pub is_named_by : List (List ℕ) → PendingQuery → Bool
is_named_by names posted = list_any (bytes_eq posted.name) names

-- A query hangs on others: a query is kept where it has one of the names, or supplies a postcondition of one that is kept.
abbrev pub IsKept : List PendingQuery → List (List ℕ) → ℕ → Type 0
IsKept pending names = IsReached (edges_of pending) (map (λ posted. true) pending) (map (is_named_by names) pending)

-- Those have a flag that are kept.
abbrev pub AreKept : List PendingQuery → List (List ℕ) → List Bool → Type 0
AreKept pending names flags = (place : ℕ) → (is_set flags place ≡ true) ↔ IsKept pending names place

-- All queries are drawn, or those that have a flag.
abbrev pub is_drawn : Drawn → ℕ → Bool
is_drawn All place = true
is_drawn (Flagged flags) place = is_set flags.now place

-- What a query has in the graph, where it is drawn.
abbrev pub if_drawn : (ℕ → Bool) → (ℕ × PendingQuery → List ℕ) → ℕ × PendingQuery → List ℕ
if_drawn drawn text query = if drawn query.0 then text query else []

-- The graph of the queries that are drawn: these in posting order, and then what supplies each of their postconditions; and more lines behind it.
abbrev pub graph_of : (ℕ → Bool) → List ℕ → PoolRecord → List ℕ
graph_of drawn more pool =
    codes "digraph board {\n" ++ flat_map (if_drawn drawn (query_box pool)) (enumerate_from 0 pool.pending) ++ flat_map (if_drawn drawn (supplies pool.pending)) (enumerate_from 0 pool.pending)
    ++ (more ++ codes "}\n")

-- The graph of all queries.
abbrev pub graph : PoolRecord → List ℕ
graph = graph_of (λ place. true) []
