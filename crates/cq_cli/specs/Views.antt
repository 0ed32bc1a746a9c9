-- What the program reports about a board. (this project's profile)
use Rattle.std.specs.Prelude.{◌≡◌, ◌⊎◌, ℕ, Bool, true, false, List, [], ◌∷◌, ◌++◌, Option, codes}
use Rattle.std.specs.Io.KnownBytes.{Appends}
use Rattle.json.specs.Print.{print}
use Rattle.json.specs.Tree.{json_tokens}
use Rattle.cq_ask.specs.Choices.{StandForChoices}
use Rattle.cq_board.specs.Choice.{ChoiceRecord, IsCoordinating}
use Rattle.cq_board.specs.Pool.{PoolRecord}
use Rattle.cq_render.specs.Report.{line}
use Rattle.cq_closure.specs.Closure.{is_set}
use Rattle.cq_render.specs.declared.extent.Extent.{Extent}
use Rattle.cq_render.specs.Graph.{AreKept, graph_of}
use Rattle.cq_render.specs.Json.{json_of}
use Rattle.cq_render.specs.Dump.{dump}
use Rattle.cq_going.specs.declared.telling.Outcome.{Outcome}
use Rattle.cq_going.specs.Going.{IsSoughtTold}
use Rattle.cq_going.specs.Boxes.{IsBoxed}
use Rattle.cq_going.specs.Grouping.{AreGroupsTold}
use Rattle.cq_desk.specs.Machine.{published_count}
use Rattle.cq_report.specs.Machine.{shown}
use Rattle.cq_report.specs.Output.{Left}
use Rattle.cq_report.specs.Summary.{warning}
use Rattle.cq_render.specs.Explain.{ArePieces, IsExplained, IsToldOnce}
use Rattle.cq_cli.specs.declared.status.Status.{Status}
use Rattle.cq_cli.specs.declared.status.Status.TheVariants.{Done, NotSo}
use Rattle.cq_cli.specs.Status.{status_of_outcome}
use Rattle.cq_cli.specs.Explained.{absent_names, absent_lines, status_of_absent}
use Rattle.cq_cli.specs.Noted.{IsNoted}

-- Words that are told, behind the program's name and that of the file, where there is one; nothing where there are none.
abbrev pub told_line : List ℕ → List ℕ → List ℕ
told_line origin [] = []
told_line origin (b ∷ bs) = line (codes "board: " ++ origin ++ b ∷ bs)

-- That a byte order mark stands in front of a script, in a line, where one does.
abbrev pub mark_note : List ℕ → Bool → List ℕ
mark_note origin false = []
mark_note origin true = told_line origin (codes "a byte order mark, with which no script begins")

-- What is reported of what a script leaves: how the program ends, what it writes, and what it tells beside that, of names say.
abbrev pub Telling : Type 1
Telling = Left → Status → List ℕ → List ℕ → Type 0

-- The graph of the queries that are drawn, with groups in boxes or without.
abbrev pub IsGraphOf : Bool → (ℕ → Bool) → PoolRecord → List ℕ → Type 0
IsGraphOf false drawn pool text = text ≡ graph_of drawn [] pool
IsGraphOf true drawn pool text = IsBoxed drawn pool text

-- The graph of all queries; where names are given, of those that are kept with these.
abbrev pub IsGraphWith : Bool → List (List ℕ) → PoolRecord → List ℕ → Type 0
IsGraphWith boxed [] pool text = IsGraphOf boxed (λ place. true) pool text
IsGraphWith boxed (name ∷ names) pool text = (flags : List Bool) × AreKept pool.pending (name ∷ names) flags × IsGraphOf boxed (is_set flags) pool text

-- The graph; and beside it the names under which no query is pending.
abbrev pub IsGraph : Bool → List (List ℕ) → Telling
IsGraph boxed names left status text notes =
    (status ≡ status_of_absent (absent_names (shown left.floor) names)) × IsGraphWith boxed names (shown left.floor) text × (notes ≡ absent_lines (shown left.floor) names)

-- What the library for JSON prints of the board, and of how many entries it is, in a line.
abbrev pub IsJson : Telling
IsJson left status text notes = (status ≡ Done) × (text ≡ line (print (json_tokens (json_of (published_count left.floor) (shown left.floor))))) × (notes ≡ [])

-- A script in the same form that makes the board.
abbrev pub IsDump : Telling
IsDump left status text notes = (status ≡ Done) × (text ≡ dump left.form left.floor.limit (shown left.floor)) × (notes ≡ [])

-- The groups.
abbrev pub AreGroups : Telling
AreGroups left status text notes = (status ≡ Done) × AreGroupsTold (shown left.floor) text × (notes ≡ [])

-- What is told of a coordinating choice that has the names.
pub record IsSought (names : List (List ℕ)) (left : Left) (status : Status) (text notes : List ℕ) : Type 0 where
  pub outcome : Outcome
  pub ends : status ≡ status_of_outcome outcome
  pub told : IsSoughtTold (shown left.floor) names outcome text
  pub quiet : notes ≡ []

-- Whether the choices coordinate; and beside it what is wrong with those that are none by themselves.
abbrev pub IsJudged : List ChoiceRecord → Telling
IsJudged choices left status text notes =
    (((status ≡ Done) × IsCoordinating (shown left.floor) choices × (text ≡ codes "coordinating\n"))
    ⊎ ((status ≡ NotSo) × (IsCoordinating (shown left.floor) choices → ⊥) × (text ≡ codes "not coordinating\n")))
    × ArePieces (IsNoted (shown left.floor)) choices notes

-- Why the queries of these names wait, or all that do: each with all on which it rests, or, where no name is given and no tree is asked for, each query once.
abbrev pub IsWhy : Bool → Extent → List (List ℕ) → PoolRecord → List ℕ → Type 0
IsWhy true extent names pool text = IsExplained extent pool names text
IsWhy false extent [] pool text = IsToldOnce extent pool text
IsWhy false extent (name ∷ names) pool text = IsExplained extent pool (name ∷ names) text

-- That; and beside it the names under which no query is pending.
abbrev pub AreExplained : Bool → Extent → List (List ℕ) → Telling
AreExplained tree extent names left status text notes =
    (status ≡ status_of_absent (absent_names (shown left.floor) names)) × IsWhy tree extent names (shown left.floor) text × (notes ≡ absent_lines (shown left.floor) names)

-- Bytes were told, unless the writer of errors failed.
abbrev pub ToldOn : (failures failures' : ℕ) → (taken taken' : Option (List ℕ)) → List ℕ → Type 0
ToldOn failures failures' taken taken' bytes = failures' ≡ failures → Appends taken taken' bytes

-- That is what a writer took. Beside it was told whether a byte order mark stands in front of the script, which lines of it were refused and how many edits are not published, where that is so.
abbrev pub IsShown : Telling → (origin : List ℕ) → (marked : Bool) → Left → Status → Option (List ℕ) → Option (List ℕ) → (List ℕ → Type 0) → Type 0
IsShown Tells origin marked left status before after Noted =
    (text : List ℕ) × (notes : List ℕ) × Tells left status text notes × Appends before after text × Noted (mark_note origin marked ++ (told_line origin (warning left) ++ notes))

-- The same of choices for which words stand.
abbrev pub IsJudgedShown : List (List ℕ) → (origin : List ℕ) → (marked : Bool) → Left → Status → Option (List ℕ) → Option (List ℕ) → (List ℕ → Type 0) → Type 0
IsJudgedShown words origin marked left status before after Noted =
    (choices : List ChoiceRecord) × StandForChoices words choices × IsShown (IsJudged choices) origin marked left status before after Noted
