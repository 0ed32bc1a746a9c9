-- Who can go, and how: what is told of a coordinating choice that is sought. (this project's profile)
use Rattle.std.specs.Prelude.{◌≡◌, ◌<◌, ℕ, List, [], ◌∷◌, ◌++◌, length, codes}
use Rattle.std.specs.List.{flat_map, join_by}
use Rattle.cq_atom.specs.Atom.{AtomRecord}
use Rattle.cq_text.specs.Print.{printed_atom, printed_values}
use Rattle.cq_board.specs.Pool.{PendingQuery, PoolRecord}
use Rattle.cq_board.specs.Named.{query_named}
use Rattle.cq_board.specs.Choice.{ChoiceRecord, offered_by}
use Rattle.cq_choose.specs.Choosing.{IsChoiceFor}
use Rattle.cq_reached.specs.Reached.{IsReachedChoice}
use Rattle.cq_render.specs.Report.{line}
use Rattle.cq_going.specs.Reasons.{barred_lines, IsDisagreementTold}
use Rattle.cq_going.specs.declared.telling.Outcome.{Outcome}
use Rattle.cq_going.specs.declared.telling.Outcome.TheVariants.{Found, Impossible, Undecided}

-- A choice, as it is read after `choice`: the query's name, and the values in brackets.
abbrev pub choice_word : ChoiceRecord → List ℕ
choice_word choice = choice.name ++ printed_values choice.values

-- An atom that is offered for a choice.
abbrev pub offer_line : List ℕ → AtomRecord → List ℕ
offer_line name atom = line (codes "  " ++ name ++ codes ": " ++ printed_atom atom)

-- What the choice offers: the heads of its query under its values.
abbrev pub offer_lines : List PendingQuery → ChoiceRecord → List ℕ
offer_lines pending choice = flat_map (offer_line choice.name) (offered_by (query_named choice.name pending) choice.values)

-- Choices in one line, and then what each of them offers.
abbrev pub choice_lines : List PendingQuery → List ChoiceRecord → List ℕ
choice_lines pending choices = line (join_by choice_word (codes " ") choices) ++ flat_map (offer_lines pending) choices

-- Choices that coordinate and have the names; where there is no name, those that are reached.
abbrev pub IsFor : PoolRecord → List (List ℕ) → List ChoiceRecord → Type 0
IsFor pool [] choices = IsReachedChoice pool choices
IsFor pool (name ∷ names) choices = IsChoiceFor pool (name ∷ names) choices

-- There are none: none that has the names, or none for any query.
abbrev pub HasNone : PoolRecord → List (List ℕ) → Type 0
HasNone pool [] = IsReachedChoice pool []
HasNone pool (name ∷ names) = (choices : List ChoiceRecord) → IsChoiceFor pool (name ∷ names) choices → ⊥

-- Why there are none: the names under which nothing can be chosen, and the disagreement, where there is one.
abbrev pub IsWhyNone : PoolRecord → List (List ℕ) → List ℕ → Type 0
IsWhyNone pool names why = (lack : List ℕ) × IsDisagreementTold pool names lack × (why ≡ barred_lines pool names ++ lack)

-- What is told: choices that were found, at least one; that there is none, and why; or that neither was found.
abbrev pub IsSoughtTold : PoolRecord → List (List ℕ) → Outcome → List ℕ → Type 0
IsSoughtTold pool names Found text = (choices : List ChoiceRecord) × (0 < length choices) × IsFor pool names choices × (text ≡ choice_lines pool.pending choices)
IsSoughtTold pool names Impossible text = HasNone pool names × (why : List ℕ) × IsWhyNone pool names why × (text ≡ line (codes "none") ++ why)
IsSoughtTold pool names Undecided text = text ≡ line (codes "undecided")
