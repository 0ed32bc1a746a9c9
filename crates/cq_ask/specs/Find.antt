-- What `find` asks for, and how it is answered: grounding by grounding. (this project's profile)
use Rattle.std.specs.Prelude.{◌≡◌, ◌⊎◌, ℕ, ◌+◌, ◌-◌, ◌^◌, ◌==◌, min, Bool, not, pos, List, [], ◌∷◌, ◌++◌, length, take, drop, map, reverse, codes, nat_le, if◌then◌else◌, Option, Some, None}
use Rattle.std.specs.List.{flat_map, join_by, prefix_len}
use Rattle.std.specs.Str.{bytes_eq}
use Rattle.json.specs.Json.{Json, string}
use Rattle.json.specs.Tree.{json_tokens}
use Rattle.json.specs.Print.{print}
use Rattle.cq_atom.specs.declared.value.Content.TheVariants.{Number}
use Rattle.cq_atom.specs.Value.{ValueContent}
use Rattle.cq_atom.specs.Query.{QueryRecord, variables_of}
use Rattle.cq_text.specs.Field.{value_of_field}
use Rattle.cq_text.specs.Print.{printed_values}
use Rattle.cq_render.specs.Report.{line}
use Rattle.cq_render.specs.Json.{array_of, grounding_json}
use Rattle.cq_ask.specs.Ask.{words_of}

-- ---- what is asked for

-- A body is read as that of a query that offers one constant.
abbrev pub find_front : List ℕ
find_front = codes "{} Find(1) <- "

-- A byte that is no `)`.
abbrev pub is_inner : ℕ → Bool
is_inner b = not (b == 41)

-- How many bytes of a text come after its last `)`.
abbrev pub tail_len : List ℕ → ℕ
tail_len text = prefix_len is_inner (reverse text)

-- The number that a value is, unless it is negative.
abbrev pub count_in : Option ValueContent → Option ℕ
count_in (Some (Number (pos n))) = Some n
count_in _ = None

-- The number that the words name, if they are `first` and a number.
abbrev pub first_in : List (List ℕ) → Option ℕ
first_in (word ∷ number ∷ []) = if bytes_eq word (codes "first") then count_in (value_of_field number) else None
first_in _ = None

-- The body and a number, if there is one; else the whole text is the body.
abbrev pub parts_by : Option ℕ → List ℕ → List ℕ → List ℕ × Option ℕ
parts_by (Some n) body text = (body, Some n)
parts_by None body text = (text, None)

-- The body in a text, and how many groundings are wanted at most: `first N` after the last `)` is no part of the body.
abbrev pub find_parts : List ℕ → List ℕ × Option ℕ
find_parts text =
    let k = length text - tail_len text in
    parts_by (if nat_le k 0 then None else first_in (words_of (drop k text))) (take k text) text

-- A query with the body, and how many groundings are wanted at most.
pub record SearchRecord : Type 0 where
  pub query : QueryRecord
  pub most : Option ℕ

-- The byte of the line at which a fault of a body is, which is read behind the front and begins at this place of the line, as far as numbers of 64 bits go.
abbrev pub fault_place : ℕ → ℕ → ℕ
fault_place place offset = min (place + (offset - length find_front)) (2 ^ 64 - 1)

-- The first of a list that are wanted.
abbrev pub wanted : {X : Type 0} → Option ℕ → List X → List X
wanted None xs = xs
wanted (Some n) xs = take n xs

-- ---- how it is told

-- A grounding in a line: the values of the body's variables, in order of their first occurrence.
abbrev pub found_line : List ValueContent → List ℕ
found_line values = line (printed_values values)

-- A grounding as JSON.
abbrev pub found_text : List ValueContent → List ℕ
found_text values = print (json_tokens (grounding_json values))

-- What comes before the groundings in JSON: the variables of the body.
abbrev pub variables_text : QueryRecord → List ℕ
variables_text query = codes ",\"find\":{\"variables\":" ++ print (json_tokens (array_of (map string (variables_of query.body)))) ++ codes ",\"groundings\":["

-- Groundings with a comma between two.
abbrev pub found_texts : List (List ValueContent) → List ℕ
found_texts lists = join_by found_text (codes ",") lists
