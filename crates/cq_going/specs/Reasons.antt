-- Why there is no coordinating choice, as far as it is told. (this project's profile)
use Rattle.std.specs.Prelude.{◌≡◌, ◌⊎◌, ℕ, Bool, true, false, ◌==◌, ◌&&◌, List, [], ◌∷◌, ◌++◌, filter, codes, Option, Some, None, option_map}
use Rattle.std.specs.List.{flat_map, slice_get}
use Rattle.std.specs.Str.{bytes_eq}
use Rattle.cq_atom.specs.Value.{ValueContent}
use Rattle.cq_atom.specs.Query.{QueryRecord}
use Rattle.cq_atom.specs.Valuation.{under}
use Rattle.cq_text.specs.Print.{printed_values}
use Rattle.cq_board.specs.declared.link.Link.{Link}
use Rattle.cq_board.specs.Pool.{PoolRecord}
use Rattle.cq_board.specs.Board.{links_of}
use Rattle.cq_board.specs.Named.{query_named, matched_named, groundings_named}
use Rattle.cq_board.specs.Choice.{bound}
use Rattle.cq_choose.specs.Disagreement.{IsDisagreeing, IsDisagreement}
use Rattle.cq_render.specs.Report.{line}
use Rattle.cq_render.specs.Explain.{atom_or_none}

-- Whether a query is matched; one that is not pending is not.
abbrev pub is_yes : Option Bool → Bool
is_yes None = false
is_yes (Some matched) = matched

-- Nothing can be chosen under a name where no query is pending, or it waits.
abbrev pub barred_line : List ℕ → Option Bool → List ℕ
barred_line name None = line (codes "  " ++ name ++ codes " is absent")
barred_line name (Some false) = line (codes "  " ++ name ++ codes " waits")
barred_line name (Some true) = []

-- Those of the names for which nothing can be chosen.
abbrev pub barred_lines : PoolRecord → List (List ℕ) → List ℕ
barred_lines pool names = flat_map (λ name. barred_line name (matched_named name pool)) names

-- The link leads from a matched query to that postcondition of the query of that name.
abbrev pub leads_there : PoolRecord → List ℕ → ℕ → Link (List ℕ) → Bool
leads_there pool name post link = bytes_eq link.waiter name && ((link.post == post) && is_yes (matched_named link.provider pool))

-- The head of a link under the values.
abbrev pub head_words : QueryRecord → List ValueContent → ℕ → List ℕ
head_words query values head = atom_or_none (option_map (under (bound query values)) (slice_get query.heads head))

-- A choice for the provider of a link, and what it offers there.
abbrev pub first_words : Link (List ℕ) → QueryRecord → List ValueContent → List ℕ
first_words link query values = codes "; " ++ link.provider ++ printed_values values ++ codes " offers " ++ head_words query values link.head

-- The same of the first grounding of the provider, where it has one.
abbrev pub offer_words : Link (List ℕ) → Option QueryRecord → Option (List (List ValueContent)) → List ℕ
offer_words link None groundings = []
offer_words link (Some query) None = []
offer_words link (Some query) (Some []) = []
offer_words link (Some query) (Some (values ∷ more)) = first_words link query values

-- What the first of the links offers.
abbrev pub first_offer : PoolRecord → List (Link (List ℕ)) → List ℕ
first_offer pool [] = []
first_offer pool (link ∷ links) = offer_words link (query_named link.provider pool.pending) (groundings_named link.provider pool)

-- What is offered for a postcondition: by the first of the links that lead there.
abbrev pub near_words : PoolRecord → List ℕ → ℕ → List (Link (List ℕ)) → List ℕ
near_words pool name post links = first_offer pool (filter (leads_there pool name post) links)

-- A postcondition of a query under the values.
abbrev pub post_words : Option QueryRecord → List ValueContent → ℕ → List ℕ
post_words None values post = []
post_words (Some query) values post = atom_or_none (option_map (under (bound query values)) (slice_get query.posts post))

-- What a query awaits under the values and nobody offers, and what is offered instead.
abbrev pub lack_line : PoolRecord → List ℕ → List ValueContent → ℕ → List ℕ
lack_line pool name values post =
    line (codes "  " ++ name ++ printed_values values ++ codes " awaits " ++ post_words (query_named name pool.pending) values post ++ codes ", which none offers" ++ near_words pool name post (links_of pool.pending))

-- A line for the first concerned query of which no grounding has everything offered that it awaits; none where there is no such query.
abbrev pub IsDisagreementTold : PoolRecord → List (List ℕ) → List ℕ → Type 0
IsDisagreementTold pool names text =
    ((text ≡ []) × ((place : ℕ) (name : List ℕ) → IsDisagreeing pool names place name → ⊥))
    ⊎ ((name : List ℕ) × (values : List ValueContent) × (post : ℕ) × IsDisagreement pool names name values post × (text ≡ lack_line pool name values post))
