-- Tokens of JSON that is put part by part.
use Rattle.std.specs.Prelude.{◌≡◌, ℕ, List, ◌∷◌, ◌++◌}
use Rattle.std.specs.List.{flat_map}
use Rattle.json.specs.Json.{Json}
use Rattle.json.specs.Token.{Token, key}
use Rattle.json.specs.Tree.{json_tokens}

-- The members of an object, without its brackets.
abbrev pub members_alone : List (List ℕ × Json) → List Token
members_alone ms = flat_map (λ m. key m.0 ∷ json_tokens m.1) ms

-- Items of an array, without its brackets.
abbrev pub items_alone : List Json → List Token
items_alone values = flat_map json_tokens values

-- Tokens are put after others: those of items that are so.
abbrev pub ArePut : (List Json → Type 0) → List Token → List Token → Type 0
ArePut are_so old new = (values : List Json) × are_so values × (new ≡ old ++ items_alone values)
