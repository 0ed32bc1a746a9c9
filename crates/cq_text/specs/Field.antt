-- Which value a field of CSV stands for. (this project's profile)
use Rattle.std.specs.Prelude.{ℕ, ℤ, List, [], ◌∷◌, Option, Some, None, ◌==◌, if◌then◌else◌}
use Rattle.std.specs.List.{list_all}
use Rattle.std.specs.Char.{is_ascii_digit}
use Rattle.cq_atom.specs.declared.value.Content.TheVariants.{Number, Text}
use Rattle.cq_atom.specs.Text.{is_text}
use Rattle.cq_atom.specs.Value.{ValueContent}
use Rattle.cq_text.specs.declared.token.Token.TheVariants.{Mark, Word, Literal, Bad, Finish}
use Rattle.cq_text.specs.Token.{TokenContent}
use Rattle.cq_text.specs.Lexing.{positive, negative}

-- The number that a token is, where it is one.
abbrev pub number_in : TokenContent → Option ℤ
number_in (Literal (Number n)) = Some n
number_in (Literal (Text t)) = None
number_in (Mark s) = None
number_in (Word w) = None
number_in (Bad kind) = None
number_in Finish = None

-- The number that a field is: digits alone, or a minus and digits, that are a good number of the script language.
abbrev pub number_of_field : List ℕ → Option ℤ
number_of_field [] = None
number_of_field (b ∷ bs) =
    if b == 45 then (if list_all is_ascii_digit bs then number_in (negative bs) else None)
    else (if list_all is_ascii_digit (b ∷ bs) then number_in (positive (b ∷ bs)) else None)

-- The value that a field stands for: that number, else the text of its bytes; none where they are no text.
abbrev pub value_of_field : List ℕ → Option ValueContent
value_of_field field = elim (number_of_field field) [
  | Some n ↦ Some (Number n)
  | None ↦ (if is_text field then Some (Text field) else None)
]
