-- The pending queries of a board one after another, each with what the board shows of it, and the texts of one query by that.
use Rattle.std.specs.Prelude.{ℕ, Bool, List, [], ◌∷◌, ◌++◌, length, map, codes, if◌then◌else◌}
use Rattle.std.specs.List.{flat_map, enumerate_from}
use Rattle.std.specs.Str.{bytes_eq}
use Rattle.json.specs.Json.{Json, string}
use Rattle.cq_atom.specs.Value.{ValueContent}
use Rattle.cq_atom.specs.Query.{QueryRecord, variables_of}
use Rattle.cq_text.specs.Print.{printed_query}
use Rattle.cq_ground.specs.Grounding.{groundings_of}
use Rattle.cq_match.specs.Graph.{edges_to}
use Rattle.cq_board.specs.Pool.{PendingQuery, PoolRecord}
use Rattle.cq_board.specs.Edges.{edges_of}
use Rattle.cq_board.specs.Board.{is_matched_at}
use Rattle.cq_render.specs.declared.walking.Shown.{Shown}
use Rattle.cq_render.specs.Report.{state_word, name_line, text_line, post_lines, groundings_line, values_line}
use Rattle.cq_render.specs.Graph.{box, supply}
use Rattle.cq_render.specs.Json.{object_of, array_of, atom_json, posts_json, grounding_json}

-- A pending query: its number in posting order, its name, whether it is matched, what was posted, and its groundings.
pub record ShownRecord : Type 0 where
  pub number : ℕ
  pub name : List ℕ
  pub matched : Bool
  pub query : QueryRecord
  pub groundings : List (List ValueContent)

-- What the code has of it.
abbrev pub shown_read : {A : Type 0} → Shown A → ShownRecord
shown_read shown = record { number = shown.number; name = shown.name.now; matched = shown.matched; query = shown.query.now; groundings = shown.groundings.now }

abbrev pub shown_of : PoolRecord → ℕ × PendingQuery → ShownRecord
shown_of pool (place, posted) =
    record { number = place; name = posted.name; matched = is_matched_at pool place; query = posted.query; groundings = groundings_of posted.query.body pool.tables.rows }

-- All of them, in posting order.
abbrev pub all_shown : PoolRecord → List ShownRecord
all_shown pool = map (shown_of pool) (enumerate_from 0 pool.pending)

-- Its lines of the report.
abbrev pub shown_lines : List PendingQuery → ShownRecord → List ℕ
shown_lines pending shown =
    name_line shown.name shown.matched ++ text_line shown.query ++ flat_map (λ post. post_lines pending shown.number post.0) (enumerate_from 0 shown.query.posts)
    ++ (groundings_line (variables_of shown.query.body) (length shown.groundings) ++ flat_map values_line shown.groundings)

-- Its box of the graph.
abbrev pub shown_box : ShownRecord → List ℕ
shown_box shown = box shown.number shown.name shown.matched

-- What a query has in the graph, where it is drawn.
abbrev pub shown_if : (ℕ → Bool) → (ShownRecord → List ℕ) → ShownRecord → List ℕ
shown_if drawn text shown = if drawn shown.number then text shown else []

-- What supplies its postconditions, of the graph.
abbrev pub shown_supplies : List PendingQuery → ShownRecord → List ℕ
shown_supplies pending shown = flat_map (λ post. supply shown.number post (edges_to shown.number post.0 (edges_of pending))) (enumerate_from 0 shown.query.posts)

-- Its value in JSON.
abbrev pub shown_json : List PendingQuery → ShownRecord → Json
shown_json pending shown = object_of (
    (codes "name", string shown.name)
    ∷ (codes "state", string (state_word shown.matched))
    ∷ (codes "text", string (printed_query shown.query))
    ∷ (codes "heads", array_of (map atom_json shown.query.heads))
    ∷ (codes "postconditions", posts_json pending shown.number shown.query)
    ∷ (codes "body", array_of (map atom_json shown.query.body))
    ∷ (codes "variables", array_of (map string (variables_of shown.query.body)))
    ∷ (codes "groundings", array_of (map grounding_json shown.groundings))
    ∷ [])

-- Its lines of the report, where it has that name.
abbrev pub shown_block : List PendingQuery → List ℕ → ShownRecord → List ℕ
shown_block pending name shown = if bytes_eq shown.name name then shown_lines pending shown else []
