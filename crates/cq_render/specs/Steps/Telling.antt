-- JSON that is put part by part: members of an object, values of an array, and the first query of a name.
use Rattle.std.specs.Prelude.{◌≡◌, ℕ, List, [], ◌∷◌, ◌++◌, codes, if◌then◌else◌}
use Rattle.std.specs.List.{flat_map}
use Rattle.std.specs.Str.{bytes_eq}
use Rattle.json.specs.Json.{Json}
use Rattle.json.specs.Token.{Token, key}
use Rattle.json.specs.Tree.{json_tokens}
use Rattle.cq_match.specs.declared.falls.Fall.{Fall}
use Rattle.cq_board.specs.Pool.{PendingQuery, PoolRecord}
use Rattle.cq_render.specs.Explain.{ArePieces}
use Rattle.cq_render.specs.Json.{object_of}
use Rattle.cq_render.specs.Data.{IsOne, IsArray, standing_members, standing_json, IsUnmetJson, IsStepJson, unmet_members}
use Rattle.cq_render.specs.Steps.Walking.{ShownRecord, shown_json}

-- The first of these queries that has the name, or that none is pending under it.
abbrev pub first_shown : PoolRecord → List ℕ → List ShownRecord → Json
first_shown pool name [] = standing_json pool name
first_shown pool name (shown ∷ rest) = if bytes_eq shown.name name then shown_json pool.pending shown else first_shown pool name rest

-- The tokens of members, without the brackets around them.
abbrev pub member_tokens : List (List ℕ × Json) → List Token
member_tokens [] = []
member_tokens (m ∷ ms) = key m.0 ∷ (json_tokens m.1 ++ member_tokens ms)

-- Tokens are put after others: those of members that are so.
abbrev pub ArePut : (List (List ℕ × Json) → Type 0) → List Token → List Token → Type 0
ArePut are_so old new = (members : List (List ℕ × Json)) × are_so members × (new ≡ old ++ member_tokens members)

-- Tokens are put after others: those of values, one for each element of a list, in its order, which tells it.
abbrev pub AreListed : {X : Type 0} → (X → Json → Type 0) → List X → List Token → List Token → Type 0
AreListed tells xs old new = (values : List Json) × ArePieces (IsOne tells) xs values × (new ≡ old ++ flat_map json_tokens values)

-- The members that tell of an unmet postcondition whose providers have these names.
abbrev pub AreUnmet : List PendingQuery → List ℕ → ℕ → List (List ℕ) → List (List ℕ × Json) → Type 0
AreUnmet pending name post providers members = (heads : Json) × IsUnmetJson pending name post providers heads × (members ≡ unmet_members pending name post providers heads)

-- A query that waits, and a step for each of these falls.
abbrev pub IsPartJson : PoolRecord → List ℕ → List Fall → Json → Type 0
IsPartJson pool name part value = (steps : Json) × IsArray (IsStepJson pool.pending) part steps × (value ≡ object_of (standing_members pool name ++ (codes "steps", steps) ∷ []))
