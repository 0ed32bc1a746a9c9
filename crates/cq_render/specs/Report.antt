-- The report on a pool: a text made of whole lines. (this project's profile)
use Rattle.std.specs.Prelude.{ℕ, Bool, List, [], ◌++◌, length, codes, decimal, if◌then◌else◌}
use Rattle.std.specs.List.{flat_map, enumerate_from, join_by}
use Rattle.std.specs.Str.{bytes_eq}
use Rattle.cq_atom.specs.Value.{ValueContent}
use Rattle.cq_atom.specs.Atom.{RowRecord}
use Rattle.cq_atom.specs.Query.{QueryRecord, variables_of}
use Rattle.cq_text.specs.Print.{printed_values, printed_query}
use Rattle.cq_rel.specs.Tables.{Declaration, TablesRecord, rows_in}
use Rattle.cq_ground.specs.Grounding.{groundings_of}
use Rattle.cq_atom.specs.declared.edge.Edge.{Edge}
use Rattle.cq_match.specs.Graph.{edges_to, provider_count, is_crowd}
use Rattle.cq_board.specs.Pool.{PendingQuery, PoolRecord}
use Rattle.cq_board.specs.Edges.{edges_of}
use Rattle.cq_board.specs.Board.{is_matched_at, name_at, name_or_none}

-- The words, and the end of their line.
abbrev pub line : List ℕ → List ℕ
line words = words ++ codes "\n"

-- A declared relation: its arity, and how many rows it has.
abbrev pub relation_line : TablesRecord → Declaration → List ℕ
relation_line tables declared =
    line (codes "relation " ++ declared.relation ++ codes " " ++ decimal declared.arity ++ codes " rows " ++ decimal (length (rows_in declared.relation tables)))

-- A query is matched, or it waits.
abbrev pub state_word : Bool → List ℕ
state_word matched = if matched then codes "matched" else codes "waiting"

-- The name of a query, and whether it is matched.
abbrev pub name_line : List ℕ → Bool → List ℕ
name_line name matched = line (codes "query " ++ name ++ codes " " ++ state_word matched)

-- The text of a query.
abbrev pub text_line : QueryRecord → List ℕ
text_line query = line (codes "  text " ++ printed_query query)

-- One provider: its name, and the place of its head.
abbrev pub provider_line : List PendingQuery → Edge → List ℕ
provider_line pending edge = line (codes "    " ++ name_or_none (name_at pending edge.provider) ++ codes " head " ++ decimal edge.head)

-- Behind the number of providers, whether they are a crowd.
abbrev pub crowd_word : ℕ → List ℕ
crowd_word count = if is_crowd count then codes " crowded" else []

-- How many providers a postcondition has.
abbrev pub count_line : ℕ → ℕ → List ℕ
count_line post count = line (codes "  post " ++ decimal post ++ codes " providers " ++ decimal count ++ crowd_word count)

-- A postcondition: how many providers it has, and each of them, in the order of the edges.
abbrev pub post_lines : List PendingQuery → ℕ → ℕ → List ℕ
post_lines pending waiter post =
    count_line post (provider_count waiter post (edges_of pending)) ++ flat_map (provider_line pending) (edges_to waiter post (edges_of pending))

-- How many groundings a body has, and its variables by their first occurrence.
abbrev pub groundings_line : List (List ℕ) → ℕ → List ℕ
groundings_line variables count = line (codes "  groundings " ++ decimal count ++ codes " (" ++ join_by (λ name. name) (codes ", ") variables ++ codes ")")

-- One grounding: the values of the variables.
abbrev pub values_line : List ValueContent → List ℕ
values_line values = line (codes "    " ++ printed_values values)

-- The groundings of a query over the rows.
abbrev pub groundings_lines : QueryRecord → List RowRecord → List ℕ
groundings_lines query rows =
    groundings_line (variables_of query.body) (length (groundings_of query.body rows)) ++ flat_map values_line (groundings_of query.body rows)

-- A pending query at its place: its name and whether it is matched, its printed form, its postconditions in order, and its groundings.
abbrev pub query_lines : PoolRecord → ℕ × PendingQuery → List ℕ
query_lines pool (place, posted) =
    name_line posted.name (is_matched_at pool place) ++ text_line posted.query
    ++ flat_map (λ post. post_lines pool.pending place post.0) (enumerate_from 0 posted.query.posts)
    ++ groundings_lines posted.query pool.tables.rows

-- The report on a pool: the relations in order of declaration, and the pending queries in posting order.
abbrev pub report : PoolRecord → List ℕ
report pool = flat_map (relation_line pool.tables) pool.tables.catalog ++ flat_map (query_lines pool) (enumerate_from 0 pool.pending)

-- The lines of the query of that name, where one is pending.
abbrev pub block_of : PoolRecord → List ℕ → List ℕ
block_of pool name = flat_map (λ entry. if bytes_eq entry.1.name name then query_lines pool entry else []) (enumerate_from 0 pool.pending)
