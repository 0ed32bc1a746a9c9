-- The board of a pool as JSON. (this project's profile)
use Rattle.std.specs.Prelude.{ℕ, nat_le, unsigned_abs, List, [], ◌∷◌, ◌++◌, length, map, codes, decimal, if◌then◌else◌}
use Rattle.std.specs.Fmt.{signed_decimal}
use Rattle.std.specs.List.{enumerate_from}
use Rattle.json.specs.Json.{Json, boolean, number, string, array, object, Items, no_items, item, Members, no_members, member}
use Rattle.cq_atom.specs.declared.value.Content.TheVariants.{Number, Text}
use Rattle.cq_atom.specs.declared.term.TermKind.TheVariants.{Constant, Variable}
use Rattle.cq_atom.specs.Value.{ValueContent}
use Rattle.cq_atom.specs.Atom.{TermContent, AtomRecord}
use Rattle.cq_atom.specs.Query.{QueryRecord, variables_of}
use Rattle.cq_text.specs.Print.{printed_query}
use Rattle.cq_rel.specs.Tables.{Declaration, TablesRecord, rows_in}
use Rattle.cq_ground.specs.Grounding.{groundings_of}
use Rattle.cq_atom.specs.declared.edge.Edge.{Edge}
use Rattle.cq_match.specs.Graph.{edges_to, is_crowd}
use Rattle.cq_board.specs.Pool.{PendingQuery, PoolRecord}
use Rattle.cq_board.specs.Edges.{edges_of}
use Rattle.cq_board.specs.Board.{is_matched_at, name_at, name_or_none}
use Rattle.cq_render.specs.Limits.{most_kept}
use Rattle.cq_render.specs.Report.{state_word}

-- An array of these.
abbrev pub items : List Json → Items
items [] = no_items
items (j ∷ js) = item j (items js)

-- An array of these, as JSON.
abbrev pub array_of : List Json → Json
array_of js = array (items js)

-- An object of these members, in order.
abbrev pub members : List (List ℕ × Json) → Members
members [] = no_members
members (m ∷ ms) = member m.0 m.1 (members ms)

-- An object of these members, as JSON.
abbrev pub object_of : List (List ℕ × Json) → Json
object_of ms = object (members ms)

-- How many.
abbrev pub count : ℕ → Json
count n = number (decimal n)

-- A number is a number where all readers keep it, and else its decimal form as a text. A text is a text.
abbrev pub value_json : ValueContent → Json
value_json (Number n) = if nat_le (unsigned_abs n) most_kept then number (signed_decimal n) else string (signed_decimal n)
value_json (Text text) = string text

-- What a constant is.
abbrev pub constant_word : ValueContent → List ℕ
constant_word (Number n) = codes "number"
constant_word (Text text) = codes "text"

-- A term: a variable, or a constant by what it is.
abbrev pub term_json : TermContent → Json
term_json (Variable name) = object_of ((codes "variable", string name) ∷ [])
term_json (Constant value) = object_of ((constant_word value, value_json value) ∷ [])

-- An atom: its relation, and its terms.
abbrev pub atom_members : AtomRecord → List (List ℕ × Json)
atom_members atom = (codes "relation", string atom.relation) ∷ (codes "terms", array_of (map term_json atom.terms)) ∷ []

-- An atom as an object.
abbrev pub atom_json : AtomRecord → Json
atom_json atom = object_of (atom_members atom)

-- A declared relation: its arity, and how many rows it has.
abbrev pub relation_json : TablesRecord → Declaration → Json
relation_json tables declared =
    object_of ((codes "name", string declared.relation) ∷ (codes "arity", count declared.arity) ∷ (codes "rows", count (length (rows_in declared.relation tables))) ∷ [])

-- A provider: its name, and the place of its head.
abbrev pub provider_json : List PendingQuery → Edge → Json
provider_json pending edge = object_of ((codes "query", string (name_or_none (name_at pending edge.provider))) ∷ (codes "head", count edge.head) ∷ [])

-- A postcondition, with the edges to it: the atom, its providers, and whether they are a crowd.
abbrev pub post_json : List PendingQuery → AtomRecord → List Edge → Json
post_json pending post edges =
    object_of (atom_members post ++ (codes "providers", array_of (map (provider_json pending) edges)) ∷ (codes "crowded", boolean (is_crowd (length edges))) ∷ [])

-- The postconditions of a query, in order.
abbrev pub posts_json : List PendingQuery → ℕ → QueryRecord → Json
posts_json pending waiter query = array_of (map (λ post. post_json pending post.1 (edges_to waiter post.0 (edges_of pending))) (enumerate_from 0 query.posts))

-- A grounding: the values of the variables.
abbrev pub grounding_json : List ValueContent → Json
grounding_json values = array_of (map value_json values)

-- A pending query at its place: its name, whether it is matched, its printed form, its heads, its postconditions, its body, the variables of its body by their first occurrence, and its groundings.
abbrev pub query_json : PoolRecord → ℕ × PendingQuery → Json
query_json pool (place, posted) = object_of (
    (codes "name", string posted.name)
    ∷ (codes "state", string (state_word (is_matched_at pool place)))
    ∷ (codes "text", string (printed_query posted.query))
    ∷ (codes "heads", array_of (map atom_json posted.query.heads))
    ∷ (codes "postconditions", posts_json pool.pending place posted.query)
    ∷ (codes "body", array_of (map atom_json posted.query.body))
    ∷ (codes "variables", array_of (map string (variables_of posted.query.body)))
    ∷ (codes "groundings", array_of (map grounding_json (groundings_of posted.query.body pool.tables.rows)))
    ∷ [])

-- How many entries of the journal it is of, the relations in order of declaration, and the pending queries in posting order.
abbrev pub json_of : ℕ → PoolRecord → Json
json_of entries pool = object_of (
    (codes "entries", count entries)
    ∷ (codes "relations", array_of (map (relation_json pool.tables) pool.tables.catalog))
    ∷ (codes "queries", array_of (map (query_json pool) (enumerate_from 0 pool.pending)))
    ∷ [])
