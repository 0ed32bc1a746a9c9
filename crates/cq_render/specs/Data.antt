-- Pending queries by their names, as JSON: what the report tells of them, and why they wait. (this project's profile)
use Rattle.std.specs.Prelude.{◌≡◌, ℕ, Bool, false, nat_le, List, [], ◌∷◌, ◌++◌, map, filter, codes, decimal, if◌then◌else◌, Option, Some, None}
use Rattle.std.specs.List.{enumerate_from}
use Rattle.std.specs.Str.{bytes_eq}
use Rattle.json.specs.Json.{Json, number, string}
use Rattle.json.specs.Token.{Token}
use Rattle.json.specs.Tree.{json_tokens}
use Rattle.cq_atom.specs.Atom.{AtomRecord}
use Rattle.cq_match.specs.declared.falls.Fall.{Fall}
use Rattle.cq_match.specs.declared.falls.Reason.{Reason}
use Rattle.cq_match.specs.declared.falls.Reason.TheVariants.{NotAble, Unmet}
use Rattle.cq_board.specs.declared.near.NearMiss.{NearMiss}
use Rattle.cq_board.specs.Pool.{PendingQuery, PoolRecord}
use Rattle.cq_board.specs.Board.{place_of}
use Rattle.cq_board.specs.Named.{matched_named}
use Rattle.cq_board.specs.Near.{post_named, misses_named, miss_named, AreNearest}
use Rattle.cq_board.specs.Waiting.{IsReasonPart}
use Rattle.cq_render.specs.Limits.{most_kept}
use Rattle.cq_render.specs.Report.{state_word}
use Rattle.cq_render.specs.Explain.{ArePieces, AreProviders, head_named, name_of_number, waiting_names}
use Rattle.cq_render.specs.Json.{array_of, object_of, count, atom_members, query_json}

-- Tokens are put after others: those of a value that is so.
abbrev pub IsPut : (Json → Type 0) → List Token → List Token → Type 0
IsPut is_so old new = (value : Json) × is_so value × (new ≡ old ++ json_tokens value)

-- A value that tells an element, and no other.
abbrev pub IsOne : {X : Type 0} → (X → Json → Type 0) → X → List Json → Type 0
IsOne tells x values = (value : Json) × tells x value × (values ≡ value ∷ [])

-- An array: for each element of a list, in its order, a value that tells it.
abbrev pub IsArray : {X : Type 0} → (X → Json → Type 0) → List X → Json → Type 0
IsArray tells xs value = (values : List Json) × ArePieces (IsOne tells) xs values × (value ≡ array_of values)

-- How many, where that may be more than all readers keep: then it is a text.
abbrev pub total : ℕ → Json
total n = if nat_le n most_kept then number (decimal n) else string (decimal n)

-- ---- queries

-- A pending query is matched, or it waits; under another name there is none.
abbrev pub standing_word : Option Bool → List ℕ
standing_word None = codes "absent"
standing_word (Some matched) = state_word matched

-- A name, and what became of it.
abbrev pub standing_members : PoolRecord → List ℕ → List (List ℕ × Json)
standing_members pool name = (codes "name", string name) ∷ (codes "state", string (standing_word (matched_named name pool))) ∷ []

-- Whether the query of a name is matched.
abbrev pub standing_json : PoolRecord → List ℕ → Json
standing_json pool name = object_of (standing_members pool name)

-- The first of these queries, or that none is pending under the name.
abbrev pub first_json : PoolRecord → List ℕ → List (ℕ × PendingQuery) → Json
first_json pool name [] = standing_json pool name
first_json pool name (entry ∷ entries) = query_json pool entry

-- The query of a name.
abbrev pub named_json : PoolRecord → List ℕ → Json
named_json pool name = first_json pool name (filter (λ entry. bytes_eq entry.1.name name) (enumerate_from 0 pool.pending))

-- ---- heads that nearly supply

-- The members of an atom; none where there is no atom.
abbrev pub members_or_none : Option AtomRecord → List (List ℕ × Json)
members_or_none None = []
members_or_none (Some atom) = atom_members atom

-- A head that nearly supplies: its query, its place among the heads, and its atom.
abbrev pub near_json : List PendingQuery → NearMiss (List ℕ) → Json
near_json pending near = object_of ((codes "query", string near.provider) ∷ (codes "head", count near.head) ∷ members_or_none (head_named near.provider near.head pending))

-- The heads that are nearest to a postcondition.
abbrev pub IsNearJson : List PendingQuery → List ℕ → ℕ → Json → Type 0
IsNearJson pending name post heads =
    (nearest : List (ℕ × ℕ × ℕ)) × AreNearest (misses_named name post pending) nearest × (heads ≡ array_of (map (near_json pending) (map (miss_named pending) nearest)))

-- A name, and the heads that are nearest to that postcondition of its query.
abbrev pub IsNearOf : PoolRecord → ℕ → List ℕ → Json → Type 0
IsNearOf pool post name value =
    (heads : Json) × IsNearJson pool.pending name post heads × (value ≡ object_of (standing_members pool name ++ (codes "heads", heads) ∷ []))

-- ---- reasons

-- The heads that are near to an unmet postcondition; they are told where it has no provider.
abbrev pub IsUnmetJson : List PendingQuery → List ℕ → ℕ → List (List ℕ) → Json → Type 0
IsUnmetJson pending name post [] heads = IsNearJson pending name post heads
IsUnmetJson pending name post (provider ∷ providers) heads = heads ≡ array_of []

-- The members that tell of an unmet postcondition: its place, its atom, the names of its providers, and heads that are near to it.
abbrev pub unmet_members : List PendingQuery → List ℕ → ℕ → List (List ℕ) → Json → List (List ℕ × Json)
unmet_members pending name post providers heads =
    (codes "reason", string (codes "unmet")) ∷ (codes "post", count post) ∷ (members_or_none (post_named name post pending) ++ (codes "providers", array_of (map string providers)) ∷ (codes "near", heads) ∷ [])

-- Why the query of that name and number waits, once those wait that are named before it: no row fits its body; or a postcondition is unmet, all of whose providers wait, if it has any.
abbrev pub IsReasonJson : List PendingQuery → List ℕ → ℕ → Reason → List (List ℕ × Json) → Type 0
IsReasonJson pending name waiter NotAble members = members ≡ (codes "reason", string (codes "no row")) ∷ []
IsReasonJson pending name waiter (Unmet post) members =
    (providers : List ℕ) × AreProviders pending waiter post providers × (heads : Json) × IsUnmetJson pending name post (map (name_of_number pending) providers) heads
    × (members ≡ unmet_members pending name post (map (name_of_number pending) providers) heads)

-- A step: a query, and why it waits.
abbrev pub IsStepJson : List PendingQuery → Fall → Json → Type 0
IsStepJson pending fall step =
    (members : List (List ℕ × Json)) × IsReasonJson pending (name_of_number pending fall.node) fall.node fall.reason members
    × (step ≡ object_of ((codes "query", string (name_of_number pending fall.node)) ∷ members))

-- A query that waits: a step for each query on which it rests, itself last.
pub record IsWaitJson (pool : PoolRecord) (name : List ℕ) (value : Json) : Type 0 where
  pub place : ℕ
  pub there : place_of name pool.pending ≡ Some place
  pub part : List Fall
  pub reason : IsReasonPart pool place part
  pub steps : Json
  pub told : IsArray (IsStepJson pool.pending) part steps
  pub is : value ≡ object_of (standing_members pool name ++ (codes "steps", steps) ∷ [])

-- What is told of a name, by what it names.
abbrev pub IsWhyBy : Option Bool → PoolRecord → List ℕ → Json → Type 0
IsWhyBy (Some false) pool name value = IsWaitJson pool name value
IsWhyBy state pool name value = value ≡ standing_json pool name

-- Why the query of a name waits, or that it does not.
abbrev pub IsWhyJson : PoolRecord → List ℕ → Json → Type 0
IsWhyJson pool name value = IsWhyBy (matched_named name pool) pool name value

-- The names that are told of; where none is given, those of all queries that wait.
abbrev pub told_names : PoolRecord → List (List ℕ) → List (List ℕ)
told_names pool [] = waiting_names pool
told_names pool (name ∷ names) = name ∷ names

-- Why the queries of these names wait; where there is none, why all do that wait.
abbrev pub AreReasonsJson : PoolRecord → List (List ℕ) → Json → Type 0
AreReasonsJson pool names value = IsArray (IsWhyJson pool) (told_names pool names) value
