-- Who can go, and which queries hang together, as JSON. (this project's profile)
use Rattle.std.specs.Prelude.{◌≡◌, ◌⊎◌, ◌<◌, ℕ, Bool, true, List, [], ◌∷◌, ◌++◌, length, map, filter, codes, Option, Some, None, option_map}
use Rattle.std.specs.List.{enumerate_from, flat_map, slice_get}
use Rattle.json.specs.Json.{Json, null, string}
use Rattle.cq_atom.specs.Value.{ValueContent}
use Rattle.cq_atom.specs.Atom.{AtomRecord}
use Rattle.cq_atom.specs.Query.{QueryRecord}
use Rattle.cq_atom.specs.Valuation.{under}
use Rattle.cq_groups.specs.Groups.{AreLabels}
use Rattle.cq_board.specs.declared.link.Link.{Link}
use Rattle.cq_board.specs.Pool.{PendingQuery, PoolRecord, name_of}
use Rattle.cq_board.specs.Edges.{edges_of}
use Rattle.cq_board.specs.Board.{links_of}
use Rattle.cq_board.specs.Named.{query_named, matched_named, groundings_named}
use Rattle.cq_board.specs.Choice.{ChoiceRecord, bound, offered_by}
use Rattle.cq_choose.specs.Disagreement.{IsDisagreeing, IsDisagreement}
use Rattle.cq_render.specs.Json.{array_of, object_of, count, atom_json, grounding_json}
use Rattle.cq_render.specs.Data.{standing_json, members_or_none}
use Rattle.cq_render.specs.Explain.{ArePieces}
use Rattle.cq_going.specs.declared.telling.Outcome.{Outcome}
use Rattle.cq_going.specs.declared.telling.Outcome.TheVariants.{Found, Impossible, Undecided}
use Rattle.cq_going.specs.Reasons.{leads_there}
use Rattle.cq_going.specs.Going.{IsFor, HasNone}
use Rattle.cq_going.specs.Grouping.{matched_flags, links_between, names_labelled, IsVerdict}

-- ---- choices

-- A name, and values for the variables of its query.
abbrev pub valued_members : List ℕ → List ValueContent → List (List ℕ × Json)
valued_members name values = (codes "query", string name) ∷ (codes "values", grounding_json values) ∷ []

-- A choice, and the atoms that it offers.
abbrev pub choice_json : List PendingQuery → ChoiceRecord → Json
choice_json pending choice =
    object_of (valued_members choice.name choice.values ++ (codes "offers", array_of (map atom_json (offered_by (query_named choice.name pending) choice.values))) ∷ [])

-- ---- why there is none

-- The name, where nothing can be chosen under it: no query is pending, or it waits.
abbrev pub barred_if : PoolRecord → List ℕ → Option Bool → List Json
barred_if pool name (Some true) = []
barred_if pool name state = standing_json pool name ∷ []

-- Those of the names for which nothing can be chosen, in their order.
abbrev pub barred_json : PoolRecord → List (List ℕ) → Json
barred_json pool names = array_of (flat_map (λ name. barred_if pool name (matched_named name pool)) names)

-- An atom of a query under the values: its members, none where there is no such atom.
abbrev pub under_members : QueryRecord → List ValueContent → Option AtomRecord → List (List ℕ × Json)
under_members query values atom = members_or_none (option_map (under (bound query values)) atom)

-- What the first grounding of a link's provider offers by the link's head; nothing where it has no grounding.
abbrev pub offer_json : Link (List ℕ) → Option QueryRecord → Option (List (List ValueContent)) → Json
offer_json link (Some query) (Some (values ∷ more)) =
    object_of (valued_members link.provider values ++ (codes "head", count link.head) ∷ under_members query values (slice_get query.heads link.head))
offer_json link query groundings = null

-- What the first of the links offers; nothing where there is none.
abbrev pub first_json : PoolRecord → List (Link (List ℕ)) → Json
first_json pool [] = null
first_json pool (link ∷ links) = offer_json link (query_named link.provider pool.pending) (groundings_named link.provider pool)

-- A postcondition of a query under the values.
abbrev pub post_members : Option QueryRecord → List ValueContent → ℕ → List (List ℕ × Json)
post_members None values post = []
post_members (Some query) values post = under_members query values (slice_get query.posts post)

-- What a query awaits under the values and nobody offers, and what is offered instead.
abbrev pub lack_json : PoolRecord → List ℕ → List ValueContent → ℕ → Json
lack_json pool name values post =
    object_of (valued_members name values ++ (codes "post", count post) ∷ (post_members (query_named name pool.pending) values post
    ++ (codes "offered", first_json pool (filter (leads_there pool name post) (links_of pool.pending))) ∷ []))

-- The first concerned query of which no grounding has everything offered that it awaits; null where there is no such query.
abbrev pub IsDisagreementJson : PoolRecord → List (List ℕ) → Json → Type 0
IsDisagreementJson pool names value =
    ((value ≡ null) × ((place : ℕ) (name : List ℕ) → IsDisagreeing pool names place name → ⊥))
    ⊎ ((name : List ℕ) × (values : List ValueContent) × (post : ℕ) × IsDisagreement pool names name values post × (value ≡ lack_json pool name values post))

-- Choices that were found.
abbrev pub found_json : List PendingQuery → List ChoiceRecord → Json
found_json pending choices = object_of ((codes "outcome", string (codes "found")) ∷ (codes "choices", array_of (map (choice_json pending) choices)) ∷ [])

-- There is none; and why, by the names for which nothing can be chosen, and by what a query lacks.
abbrev pub none_json : PoolRecord → List (List ℕ) → Json → Json
none_json pool names lack = object_of ((codes "outcome", string (codes "none")) ∷ (codes "barred", barred_json pool names) ∷ (codes "lack", lack) ∷ [])

-- Neither was found.
abbrev pub undecided_json : Json
undecided_json = object_of ((codes "outcome", string (codes "undecided")) ∷ [])

-- What is told: choices that were found, at least one; that there is none, and why; or that neither was found.
abbrev pub IsSoughtBy : PoolRecord → List (List ℕ) → Outcome → Json → Type 0
IsSoughtBy pool names Found value =
    (choices : List ChoiceRecord) × (0 < length choices) × IsFor pool names choices × (value ≡ found_json pool.pending choices)
IsSoughtBy pool names Impossible value =
    HasNone pool names × (lack : Json) × IsDisagreementJson pool names lack × (value ≡ none_json pool names lack)
IsSoughtBy pool names Undecided value = value ≡ undecided_json

-- What is told of a coordinating choice that is sought for these names.
abbrev pub IsSoughtJson : PoolRecord → List (List ℕ) → Json → Type 0
IsSoughtJson pool names value = (outcome : Outcome) × IsSoughtBy pool names outcome value

-- ---- groups

-- A group, and whether some coordinating choice has all of its queries; nothing of no group.
abbrev pub IsGroupJson : PoolRecord → List (List ℕ) → List Json → Type 0
IsGroupJson pool [] values = values ≡ []
IsGroupJson pool (name ∷ names) values =
    (words : List ℕ) × IsVerdict pool (name ∷ names) words
    × (values ≡ object_of ((codes "queries", array_of (map string (name ∷ names))) ∷ (codes "verdict", string words) ∷ []) ∷ [])

-- The groups of matched queries that hang together by edges, in the order of the first of each.
abbrev pub AreGroupsJson : PoolRecord → Json → Type 0
AreGroupsJson pool value =
    (labels : List ℕ) × AreLabels (links_between (matched_flags pool) (edges_of pool.pending)) (length pool.pending) labels
    × (values : List Json) × ArePieces (λ p. IsGroupJson pool (names_labelled (matched_flags pool) labels (map name_of pool.pending) p.0)) (enumerate_from 0 pool.pending) values
    × (value ≡ array_of values)
