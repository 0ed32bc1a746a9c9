-- What words after `choice` stand for, and which words a line has. (this project's profile)
use Rattle.std.specs.Prelude.{◌≡◌, ◌<◌, ◌==◌, ⊤, ℕ, Bool, false, not, IsTrue, List, [], ◌∷◌, ◌++◌, length, filter, get_or, codes, Option, Some, None, if◌then◌else◌}
use Rattle.std.specs.List.{join_by}
use Rattle.cq_atom.specs.Text.{is_name}
use Rattle.cq_atom.specs.Value.{ValueContent}
use Rattle.cq_atom.specs.Atom.{RowRecord}
use Rattle.cq_text.specs.declared.form.Form.TheVariants.{Two}
use Rattle.cq_text.specs.Grammar.{StandsForRow}
use Rattle.cq_text.specs.Lexing.{is_space}
use Rattle.cq_board.specs.Pool.{PoolRecord}
use Rattle.cq_board.specs.Choice.{ChoiceRecord, IsCoordinating}
use Rattle.cq_ask.specs.declared.choices.ChoiceFault.{ChoiceFault}
use Rattle.cq_ask.specs.declared.choices.ChoiceFault.TheVariants.{Bad, NoMemory}
use Rattle.cq_ask.specs.declared.choices.Place.{Place}
use Rattle.cq_ask.specs.declared.choices.Place.TheVariants.{Outside, Inside, Escaped}

-- Two lists are equally long, and elements at one place are related.
abbrev pub ArePaired : {X Y : Type 0} → (X → Y → Type 0) → List X → List Y → Type 0
ArePaired related [] [] = ⊤
ArePaired related [] (y ∷ ys) = ⊥
ArePaired related (x ∷ xs) [] = ⊥
ArePaired related (x ∷ xs) (y ∷ ys) = related x y × ArePaired related xs ys

-- A text stands for a value: between the brackets of a row it is its one value.
abbrev pub StandsForValue : List ℕ → ValueContent → Type 0
StandsForValue text value = (row : RowRecord) × StandsForRow Two (codes "V(" ++ text ++ codes ")") row × (row.values ≡ value ∷ [])

-- A text lists values: texts of them with commas between; none where it is empty.
abbrev pub ListsValues : List ℕ → List ValueContent → Type 0
ListsValues text values = (texts : List (List ℕ)) × ArePaired StandsForValue texts values × (text ≡ join_by (λ one. one) (codes ",") texts)

-- A word stands for a choice: a query's name, and in brackets its values.
abbrev pub StandsForChoice : List ℕ → ChoiceRecord → Type 0
StandsForChoice word choice = (inner : List ℕ) × IsTrue (is_name choice.name) × ListsValues inner choice.values × (word ≡ choice.name ++ codes "(" ++ inner ++ codes ")")

-- Words stand for choices, each for one, in their order.
abbrev pub StandForChoices : List (List ℕ) → List ChoiceRecord → Type 0
StandForChoices words choices = ArePaired StandsForChoice words choices

-- The words stand for no choices.
abbrev pub StandForNone : List (List ℕ) → Type 0
StandForNone words = (choices : List ChoiceRecord) → StandForChoices words choices → ⊥

-- The words stand for choices that coordinate on the board.
abbrev pub AreCoordinating : PoolRecord → List (List ℕ) → Type 0
AreCoordinating pool words = (choices : List ChoiceRecord) × StandForChoices words choices × IsCoordinating pool choices

-- The words stand for choices that do not.
abbrev pub AreNotCoordinating : PoolRecord → List (List ℕ) → Type 0
AreNotCoordinating pool words = (choices : List ChoiceRecord) × StandForChoices words choices × (IsCoordinating pool choices → ⊥)

-- The word at that place stands for no choice.
abbrev pub IsBadWord : List (List ℕ) → ChoiceFault → Type 0
IsBadWord words (Bad place) = (place < length words) × ((choice : ChoiceRecord) → StandsForChoice (get_or words place []) choice → ⊥)
IsBadWord words NoMemory = ⊤

-- ---- words of a line

-- Where a reader stands after a further byte: in no quotes, between them, or after a backslash there that escapes what follows.
abbrev pub place_after : Place → ℕ → Place
place_after Outside b = if b == 34 then Inside else Outside
place_after Inside b = if b == 34 then Outside else (if b == 92 then Escaped else Inside)
place_after Escaped b = Inside

-- The same for brackets: in none, or at a place in them. A bracket between quotes closes nothing.
abbrev pub bracket_after : Option Place → ℕ → Option Place
bracket_after None b = if b == 40 then Some Outside else None
bracket_after (Some Outside) b = if b == 41 then None else Some (place_after Outside b)
bracket_after (Some place) b = Some (place_after place b)

-- A space parts words outside of brackets alone.
abbrev pub is_gap : Option Place → ℕ → Bool
is_gap None b = is_space b
is_gap (Some place) b = false

-- The pieces of the bytes, of which the first is begun.
abbrev pub word_pieces : Option Place → List ℕ → List ℕ → List (List ℕ)
word_pieces place piece [] = piece ∷ []
word_pieces place piece (b ∷ bs) = if is_gap place b then piece ∷ word_pieces place [] bs else word_pieces (bracket_after place b) (piece ++ b ∷ []) bs

-- Those that are not empty.
abbrev pub kept_words : List (List ℕ) → List (List ℕ)
kept_words pieces = filter (λ word. not (length word == 0)) pieces

-- The words of a text: what stands between spaces outside of brackets.
abbrev pub choice_words : List ℕ → List (List ℕ)
choice_words text = kept_words (word_pieces None [] text)
