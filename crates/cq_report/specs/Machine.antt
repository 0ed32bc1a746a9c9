-- A script is served by its setup first, and from then on by the floor machine with one session. (this project's profile)
use Rattle.std.specs.Prelude.{ℕ, Bool, true, false, ◌&&◌, nat_le, List, [], ◌∷◌, ◌++◌, ◌+◌, length, Option, Some, None, codes, decimal}
use Rattle.cq_rel.specs.declared.fault.CatalogFault.{CatalogFault}
use Rattle.cq_rel.specs.Tables.{Declaration, declaration, declare_fault}
use Rattle.cq_text.specs.declared.form.Form.{Form}
use Rattle.cq_text.specs.declared.form.Form.TheVariants.{One}
use Rattle.cq_text.specs.declared.command.CommandKind.TheVariants as commands
use Rattle.cq_text.specs.declared.command.SetupLine.{SetupLine}
use Rattle.cq_text.specs.declared.command.SetupLine.TheVariants as setups
use Rattle.cq_board.specs.declared.limits.Limits.{Limits}
use Rattle.cq_board.specs.Pool.{PoolRecord, opening_pool}
use Rattle.cq_board.specs.Setup.{relation_fault, with_relation, limits_fault, with_limits}
use Rattle.cq_board.specs.declared.setup.RelationFault.{RelationFault}
use Rattle.cq_board.specs.declared.setup.RelationFault.TheVariants as relations
use Rattle.cq_board.specs.declared.setup.LimitsFault.{LimitsFault}
use Rattle.cq_atom.specs.Edit.{Edit}
use Rattle.cq_board.specs.Edits.{why, pool_after}
use Rattle.cq_desk.specs.declared.event.Event.{Event}
use Rattle.cq_desk.specs.declared.event.Event.TheVariants as events
use Rattle.cq_desk.specs.Machine.{MachineRecord, opening_machine, answer_to, machine_after, published_content, reopened}
use Rattle.json.specs.Print.{print}
use Rattle.json.specs.Tree.{json_tokens}
use Rattle.cq_render.specs.Json.{json_of}
use Rattle.cq_render.specs.Report.{report}
use Rattle.cq_report.specs.Limits.{pool_limit, journal_limit}
use Rattle.cq_report.specs.declared.numbering.Numbering.{Numbering}
use Rattle.cq_report.specs.declared.numbering.Numbering.TheVariants.{Plain, Numbered, Json}
use Rattle.cq_report.specs.declared.stage.Stage.{Stage}
use Rattle.cq_report.specs.declared.stage.Stage.TheVariants.{Setup, Serving}
use Rattle.cq_report.specs.Reading.{Reading, Reads, Faulty}
use Rattle.cq_report.specs.declared.outcome.Outcome.{Outcome}
use Rattle.cq_report.specs.declared.outcome.Outcome.TheVariants.{Silent, Accepted, Entered, Published, Shown, Answered, Checkpointed, Quit, Refused}
use Rattle.cq_report.specs.declared.refusal.Refusal.{Refusal}
use Rattle.cq_report.specs.declared.refusal.Refusal.TheVariants.{Text, Late, Catalog, InUse, TooManyPending, Memory}
use Rattle.cq_report.specs.Reply.{event_outcome, outcome_line, outcome_end, refusal}
use Rattle.cq_report.specs.Data.{outcome_members}
use Rattle.cq_report.specs.declared.tally.Tally.{Tally}
use Rattle.cq_report.specs.Refusals.{no_refusal, tallied}

-- The relations that were declared so far, and the latest limits.
pub record SetupRecord : Type 0 where
  pub catalog : List Declaration
  pub limits : Limits

-- The floor machine over pools.
abbrev pub ServingRecord : Type 0
ServingRecord = MachineRecord PoolRecord Edit

-- A script is in its setup, or the floor serves it.
abbrev pub Staged : Type 0
Staged = Stage SetupRecord ServingRecord

-- How replies are numbered, and how many lines came before; which form a script is in, once a line was read that is not blank; what serves its lines; after
-- how many entries since the last checkpoint one is due, if ever; which lines were refused; and whether no further line is heard.
pub record State : Type 0 where
  pub numbering : Numbering
  pub lines : ℕ
  pub heading : Option Form
  pub stage : Staged
  pub every : ℕ
  pub tally : Tally
  pub is_over : Bool

-- At first nothing is declared, and the limits are those of a script that names none.
abbrev pub begin_setup : SetupRecord
begin_setup = record { catalog = []; limits = record { pool = pool_limit; journal = journal_limit } }

-- A script begins with its setup.
abbrev pub begin_stage : Staged
begin_stage = Setup begin_setup

-- Before the first line of a live board, which makes a checkpoint after so many entries, or none by itself where that is 0.
abbrev pub begin_life : Numbering → ℕ → State
begin_life numbering every = record { numbering = numbering; lines = 0; heading = None; stage = begin_stage; every = every; tally = no_refusal; is_over = false }

-- Before the first line of a script.
abbrev pub begin_state : Numbering → State
begin_state numbering = begin_life numbering 0

-- ---- the form

-- Scripts are in form 1 where nothing else is settled.
abbrev pub form_of : Option Form → Form
form_of None = One
form_of (Some form) = form

-- The form in which a script's next line is read.
abbrev pub form_in : State → Form
form_in state = form_of state.heading

-- The form of a script whose first line is this one of a setup: that which it names, and else form 1.
abbrev pub named_form : SetupLine (List ℕ) → Form
named_form (setups.Relation name arity) = One
named_form (setups.Board form) = form
named_form (setups.Limits pool journal) = One

-- The first line that is not blank settles the form: that which it names, and else form 1.
abbrev pub headed : Option Form → Reading → Option Form
headed (Some form) reading = Some form
headed None (Reads commands.Blank) = None
headed None (Reads (commands.Setup line)) = Some (named_form line)
headed None (Reads (commands.Edit edit)) = Some One
headed None (Reads commands.Publish) = Some One
headed None (Reads commands.Show) = Some One
headed None (Faulty kind offset) = Some One

-- A line that names the form is too late after any other that is not blank.
abbrev pub board_named : Option Form → Outcome
board_named None = Accepted
board_named (Some form) = Refused Late

-- ---- the setup

-- A relation is declared after the others, or the reason is reported.
abbrev pub declared : Option CatalogFault → SetupRecord → Declaration → SetupRecord × Outcome
declared None setup relation = (record setup { catalog = setup.catalog ++ (relation ∷ []) }, Accepted)
declared (Some fault) setup relation = (setup, Refused (Catalog fault))

-- The setup after a line of it, where this form was settled before, if any, and what comes of it. The latest limits count.
abbrev pub set_up : SetupRecord → Option Form → SetupLine (List ℕ) → SetupRecord × Outcome
set_up setup heading (setups.Relation name arity) = declared (declare_fault setup.catalog name arity) setup (declaration name arity)
set_up setup heading (setups.Board form) = (setup, board_named heading)
set_up setup heading (setups.Limits pool journal) = (record setup { limits = record { pool = pool; journal = journal } }, Accepted)

-- ---- the floor

-- What a setup opens: a floor with one session, over the relations and under the limits, without rows, queries and entries.
abbrev pub opened : SetupRecord → ServingRecord
opened setup = opening_machine (opening_pool setup.catalog setup.limits) setup.limits.journal 1

-- The floor to which an event comes: where the setup lasts, the event ends it.
abbrev pub serving_of : Staged → ServingRecord
serving_of (Setup setup) = opened setup
serving_of (Serving serving) = serving

-- The floor after an event.
abbrev pub after : ServingRecord → Event Edit → ServingRecord
after = machine_after pool_after why

-- The pool that a look shows: what the published front of the journal leaves.
abbrev pub shown : ServingRecord → PoolRecord
shown serving = published_content pool_after serving

-- ---- the setup after a checkpoint

-- Lines of a setup are taken again: a checkpoint was made, and no edit was entered since.
abbrev pub takes_setup : ServingRecord → Bool
takes_setup serving = serving.has_checkpoint && nat_le (length serving.journal) 0

-- Why a further relation is refused.
abbrev pub relation_refusal : RelationFault → Refusal
relation_refusal (relations.Refused fault) = Catalog fault
relation_refusal relations.InUse = InUse
relation_refusal relations.NoMemory = Memory

-- The journal begins over the pool with a further relation, or the reason is reported.
abbrev pub declared_later : Option RelationFault → ServingRecord → PoolRecord → ServingRecord × Outcome
declared_later None serving pool = (reopened pool serving.limit serving, Accepted)
declared_later (Some fault) serving pool = (serving, Refused (relation_refusal fault))

-- The journal begins over the pool with other limits, or the reason is reported.
abbrev pub limited_later : Option LimitsFault → ServingRecord → PoolRecord → ServingRecord × Outcome
limited_later None serving pool = (reopened pool pool.limits.journal serving, Accepted)
limited_later (Some fault) serving pool = (serving, Refused TooManyPending)

-- The floor after such a line, and what comes of it. The form is settled by then.
abbrev pub set_up_later : ServingRecord → SetupLine (List ℕ) → ServingRecord × Outcome
set_up_later serving (setups.Relation name arity) = declared_later (relation_fault (shown serving) name arity) serving (with_relation (shown serving) name arity)
set_up_later serving (setups.Board form) = (serving, Refused Late)
set_up_later serving (setups.Limits pool journal) =
    let limits : Limits = record { pool = pool; journal = journal } in
    limited_later (limits_fault (shown serving) limits) serving (with_limits (shown serving) limits)

-- Other lines of a setup are too late.
abbrev pub prepared_later : Bool → ServingRecord → SetupLine (List ℕ) → Staged × Outcome
prepared_later true serving line = (Serving (set_up_later serving line).0, (set_up_later serving line).1)
prepared_later false serving line = (Serving serving, Refused Late)

-- The stage after a line of a setup, if this form was settled before, if any, and what comes of it.
abbrev pub prepare : Staged → Option Form → SetupLine (List ℕ) → Staged × Outcome
prepare (Setup setup) heading line = (Setup (set_up setup heading line).0, (set_up setup heading line).1)
prepare (Serving serving) heading line = prepared_later (takes_setup serving) serving line

-- ---- events

-- What comes of an event.
abbrev pub outcome : ServingRecord → Event Edit → Outcome
outcome serving event = event_outcome (answer_to pool_after why serving event)

-- An event of the one session, whose number is 0.
abbrev pub happen : Staged → Event Edit → Staged × Outcome
happen state event = (Serving (after (serving_of state) event), outcome (serving_of state) event)

-- ---- lines

-- The stage after a line, and what comes of it, if this form was settled before, if any. A blank line and a fault of text change nothing.
abbrev pub staged : Staged → Option Form → Reading → Staged × Outcome
staged stage heading (Reads commands.Blank) = (stage, Silent)
staged stage heading (Reads (commands.Setup line)) = prepare stage heading line
staged stage heading (Reads (commands.Edit edit)) = happen stage (events.Enter 0 edit)
staged stage heading (Reads commands.Publish) = happen stage events.Publish
staged stage heading (Reads commands.Show) = happen stage (events.Look 0)
staged stage heading (Faulty kind offset) = (stage, Refused (Text kind offset))

-- A pool with so many entries before it, as the report has it or as JSON.
abbrev pub board_page : Numbering → ℕ → PoolRecord → List ℕ
board_page Plain count pool = report pool
board_page Numbered count pool = report pool
board_page Json count pool = print (json_tokens (json_of count pool))

-- The page of a reply: a look has the pool that it shows, and no other line has one.
abbrev pub page_of : Numbering → PoolRecord → Outcome → List ℕ
page_of numbering pool Silent = []
page_of numbering pool Accepted = []
page_of numbering pool (Entered number) = []
page_of numbering pool (Published count) = []
page_of numbering pool (Shown count) = board_page numbering count pool
page_of numbering pool (Answered kind) = []
page_of numbering pool (Checkpointed count) = []
page_of numbering pool Quit = []
page_of numbering pool (Refused why) = []

-- What comes before the page of a reply, and what after it: in words, or as members of a JSON object.
abbrev pub before_page : Numbering → Outcome → List ℕ
before_page Plain outcome = outcome_line outcome
before_page Numbered outcome = outcome_line outcome
before_page Json outcome = outcome_members outcome

-- As JSON nothing comes after it.
abbrev pub after_page : Numbering → Outcome → List ℕ
after_page Plain outcome = outcome_end outcome
after_page Numbered outcome = outcome_end outcome
after_page Json outcome = []

-- What comes of a line and its page, as they are written.
abbrev pub spoken : Numbering → Outcome → List ℕ → List ℕ
spoken numbering outcome page = before_page numbering outcome ++ (page ++ after_page numbering outcome)

-- The reply if an allocation failed.
abbrev pub memory_told : Numbering → List ℕ
memory_told numbering = spoken numbering (Refused Memory) []

-- A reply with the number of its line, if so many lines came before: it stands before it, and a line that has no reply has no number; or both are in a
-- JSON object, in a line of its own.
abbrev pub numbered : Numbering → ℕ → List ℕ → List ℕ
numbered Plain before bytes = bytes
numbered Numbered before [] = []
numbered Numbered before (b ∷ bs) = decimal (before + 1) ++ codes ": " ++ b ∷ bs
numbered Json before bytes = codes "{\"line\":" ++ decimal (before + 1) ++ bytes ++ codes "}\n"

-- The state after a line that is not counted yet.
abbrev pub served : State → Reading → State
served state reading = record state { heading = headed state.heading reading; stage = (staged state.stage state.heading reading).0 }

-- One line more came.
abbrev pub counted : State → State
counted state = record state { lines = state.lines + 1 }

-- The state after a line, which may be refused.
abbrev pub next : State → Reading → State
next state reading =
    record (counted (served state reading)) { tally = tallied state.tally (state.lines + 1) (refusal (staged state.stage state.heading reading).1) }

-- The reply after a line, without a number: the page is of the pool that is published then.
abbrev pub spoken_after : Numbering → Staged × Outcome → List ℕ
spoken_after numbering after = spoken numbering after.1 (page_of numbering (shown (serving_of after.0)) after.1)

-- The reply to a line.
abbrev pub reply : State → Reading → List ℕ
reply state reading = numbered state.numbering state.lines (spoken_after state.numbering (staged state.stage state.heading reading))
