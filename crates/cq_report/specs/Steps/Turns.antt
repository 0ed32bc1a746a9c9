-- What a line says, and the reply to it before it is written.
use Rattle.std.specs.Prelude.{◌≡◌, ◌⊎◌, ℕ, ◌==◌, Bool, true, false, List, [], ◌++◌, length, codes, Option, Some, None, ⊤}
use Rattle.cq_text.specs.declared.form.Form.{Form}
use Rattle.cq_text.specs.Grammar.{CommandContent}
use Rattle.cq_ask.specs.Ask.{AskRecord, is_checkpoint, is_find, is_quit}
use Rattle.cq_ask.specs.declared.counts.Counts.{Counts}
use Rattle.cq_ask.specs.Answer.{FloorRecord, IsTold, count_line}
use Rattle.cq_ask.specs.Data.{IsMember, count_json, member_text}
use Rattle.cq_report.specs.declared.manner.Manner.{Manner}
use Rattle.cq_report.specs.declared.manner.Manner.TheVariants as manners
use Rattle.cq_report.specs.declared.said.Said.{Said}
use Rattle.cq_report.specs.declared.said.Said.TheVariants as saids
use Rattle.cq_report.specs.declared.stage.Stage.TheVariants as stages
use Rattle.cq_report.specs.Live.{asked_in, IsSettled, is_due, needs_memory, renewed, stage_asked}
use Rattle.cq_report.specs.declared.numbering.Numbering.{Numbering}
use Rattle.cq_report.specs.declared.numbering.Numbering.TheVariants.{Plain, Numbered, Json}
use Rattle.cq_report.specs.declared.outcome.Outcome.{Outcome}
use Rattle.cq_report.specs.Reading.{Reading, Reads, Faulty, IsReading}
use Rattle.cq_report.specs.Reply.{outcome_line, outcome_end}
use Rattle.cq_report.specs.Machine.{State, Staged, form_in, opened, serving_of, shown, page_of, spoken, staged, next, counted}

-- What comes of the line, and the page that goes with it.
pub record TurnRecord : Type 0 where
  pub outcome : Outcome
  pub page : List ℕ

-- Counts, in a line or as a member of a JSON object.
abbrev pub counts_page : Numbering → Counts → List ℕ
counts_page Plain counts = count_line counts
counts_page Numbered counts = count_line counts
counts_page Json counts = member_text (codes "count", count_json counts)

-- A page that is a text, or counts in their place.
abbrev pub paged : Option (Numbering × Counts) → List ℕ → List ℕ
paged None text = text
paged (Some told) text = counts_page told.0 told.1

-- No page.
abbrev pub plain_turn : Outcome → TurnRecord
plain_turn outcome = record { outcome = outcome; page = [] }

-- The reply after a line.
abbrev pub turn_after : Numbering → Staged × Outcome → TurnRecord
turn_after numbering after = record { outcome = after.1; page = page_of numbering (shown (serving_of after.0)) after.1 }

-- The reply to a line in a state.
abbrev pub turn_in : State → Reading → TurnRecord
turn_in state reading = turn_after state.numbering (staged state.stage state.heading reading)

-- As it is written, without a number.
abbrev pub turn_bytes : Numbering → TurnRecord → List ℕ
turn_bytes numbering turn = spoken numbering turn.outcome turn.page

-- Nothing is written in words.
abbrev pub is_silent : TurnRecord → Bool
is_silent turn = length (outcome_line turn.outcome ++ (turn.page ++ outcome_end turn.outcome)) == 0

-- The page of an answer, in lines or as a member of a JSON object.
abbrev pub IsPage : Form → Numbering → FloorRecord → AskRecord → List ℕ → Type 0
IsPage form Plain floor ask page = IsTold form floor ask page
IsPage form Numbered floor ask page = IsTold form floor ask page
IsPage form Json floor ask page = IsMember form floor ask page

-- The stage, if its setup ended or not before a floor opened.
abbrev pub staged_by : Bool → Staged → Staged
staged_by true (stages.Setup setup) = stages.Serving (opened setup)
staged_by closed stage = stage

-- What a line of a script in this form says.
abbrev pub IsRead : Form → List ℕ → Said AskRecord CommandContent → Type 0
IsRead form line (saids.Asks ask) = ⊥
IsRead form line (saids.Says command) = IsReading form line (Reads command)
IsRead form line (saids.Faulty kind at) = IsReading form line (Faulty kind at)
IsRead form line saids.Lost = ⊤

-- What a line says. Nothing is known of one that is lost, but that it asks for something that needs memory if it asks.
abbrev pub IsSaid : Manner → Form → Option (List ℕ) → Said AskRecord CommandContent → Type 0
IsSaid manner form None said = said ≡ saids.Lost
IsSaid manner form (Some line) (saids.Asks ask) = asked_in manner line ≡ Some ask
IsSaid manner form (Some line) (saids.Says command) = (asked_in manner line ≡ None) × IsReading form line (Reads command)
IsSaid manner form (Some line) (saids.Faulty kind at) = (asked_in manner line ≡ None) × IsReading form line (Faulty kind at)
IsSaid manner form (Some line) saids.Lost = (ask : AskRecord) → asked_in manner line ≡ Some ask → needs_memory ask.kind ≡ true

-- The state after a line that was served: a live board may have made a checkpoint that was due.
abbrev pub IsKeptUp : Manner → State → State → Type 0
IsKeptUp manner served new = (new ≡ served) ⊎ ((manner ≡ manners.Live) × (is_due served ≡ true) × (new ≡ renewed served))

-- The state and the reply after what a line says. The answer to one that asks for groundings is made elsewhere.
abbrev pub IsObeyed : Manner → State → Said AskRecord CommandContent → State → TurnRecord → Type 0
IsObeyed manner old (saids.Asks ask) new turn =
    (new ≡ record (counted old) { stage = stage_asked (is_checkpoint ask.kind) old.stage; is_over = is_quit ask.kind })
    × (is_find ask.kind ≡ false → IsSettled (is_checkpoint ask.kind) (is_find ask.kind) (form_in old) old.numbering (serving_of old.stage) ask (turn_bytes old.numbering turn))
IsObeyed manner old (saids.Says command) new turn = IsKeptUp manner (next old (Reads command)) new × (turn ≡ turn_in old (Reads command))
IsObeyed manner old (saids.Faulty kind at) new turn = (new ≡ next old (Faulty kind at)) × (turn ≡ turn_in old (Faulty kind at))
IsObeyed manner old saids.Lost new turn = ⊥

-- An allocation may fail unless it asks for something that needs no memory.
abbrev pub MayFail : Said AskRecord CommandContent → Type 0
MayFail (saids.Asks ask) = needs_memory ask.kind ≡ true
MayFail _ = ⊤
