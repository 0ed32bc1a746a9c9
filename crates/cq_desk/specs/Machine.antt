-- The floor machine, which keeps a journal and counts, and of states only contents. It knows of the state how an edit changes it and why it refuses one.
-- (this project's profile)
use Rattle.std.specs.Prelude.{ℕ, ◌+◌, ◌-◌, ◌^◌, max, min, nat_le, Bool, true, false, List, [], ◌∷◌, ◌++◌, length, take, fold, get_or, set, replicate, if◌then◌else◌, Option, Result, Ok, Err}
use Rattle.cq_desk.specs.declared.journal.Entry.{Entry}
use Rattle.cq_desk.specs.declared.event.Event.{Event}
use Rattle.cq_desk.specs.declared.event.Event.TheVariants.{Enter, Publish, Look, Hear, Checkpoint}
use Rattle.cq_desk.specs.declared.event.Answer.{Answer}
use Rattle.cq_desk.specs.declared.event.Answer.TheVariants.{Replied, Published, Looked, Heard, Checkpointed}
use Rattle.cq_desk.specs.declared.event.StepFault.{StepFault}
use Rattle.cq_desk.specs.declared.event.StepFault.TheVariants.{NoSession, Ahead, Unpublished}
use Rattle.cq_desk.specs.Replies.{admitted, journal_edits}
use Rattle.cq_desk.specs.declared.reply.Reply.{Reply}
use Rattle.cq_desk.specs.declared.reply.Reply.TheVariants.{Entered, JournalFull, Not}

-- The content before the journal's first entry, how many entries the journal may hold, how many came before it, the journal, how many of its entries are
-- published, how many entries in all each session has seen or heard of, the content that was published before the last publish, and whether a checkpoint was
-- made.
pub record MachineRecord (C E : Type 0) : Type 0 where
  pub opening : C
  pub limit : ℕ
  pub base : ℕ
  pub journal : List (Entry E)
  pub published : ℕ
  pub seen : List ℕ
  pub earlier : C
  pub has_checkpoint : Bool

-- At first nothing has happened.
abbrev pub opening_machine : {C E : Type 0} → C → ℕ → ℕ → MachineRecord C E
opening_machine opening limit sessions = record { opening = opening; limit = limit; base = 0; journal = []; published = 0; seen = replicate sessions 0; earlier = opening; has_checkpoint = false }

-- How many entries there are in all.
abbrev pub entry_count : {C E : Type 0} → MachineRecord C E → ℕ
entry_count machine = machine.base + length machine.journal

-- How many of them are published.
abbrev pub published_count : {C E : Type 0} → MachineRecord C E → ℕ
published_count machine = machine.base + machine.published

-- How many entries the session has seen or heard of.
abbrev pub seen_by : {C E : Type 0} → MachineRecord C E → ℕ → ℕ
seen_by machine session = get_or machine.seen session 0

-- The numbers of entries have 64 bits.
abbrev pub most_entries : ℕ
most_entries = 2 ^ 64 - 1

-- The answer where there is a session of that number.
abbrev pub if_session : {C E W : Type 0} → MachineRecord C E → ℕ → Result (Answer W) StepFault → Result (Answer W) StepFault
if_session machine session answer = if nat_le (length machine.seen) session then Err NoSession else answer

-- A refused event changes nothing: one that has no answer, and one whose edit is not entered.
abbrev pub unless_refused : {C E W : Type 0} → Result (Answer W) StepFault → MachineRecord C E → MachineRecord C E → MachineRecord C E
unless_refused (Ok (Replied JournalFull)) before after = before
unless_refused (Ok (Replied (Not reason))) before after = before
unless_refused (Ok answer) before after = after
unless_refused (Err fault) before after = before

-- What the whole journal leaves over the opening content: the content of the working state.
abbrev pub working_content : {E C : Type 0} → (C → E → C) → MachineRecord C E → C
working_content after machine = fold after machine.opening (journal_edits machine.journal)

-- What its published front leaves: the content of the state that a look shows.
abbrev pub published_content : {E C : Type 0} → (C → E → C) → MachineRecord C E → C
published_content after machine = fold after machine.opening (journal_edits (take machine.published machine.journal))

-- The machine after an event that is not refused. A checkpoint makes the published content the opening one and begins a new journal, which holds no more
-- entries than there are numbers left.
abbrev pub moved : {C E : Type 0} → (C → E → C) → MachineRecord C E → Event E → MachineRecord C E
moved after machine (Enter author edit) = record machine { journal = machine.journal ++ record { author = author; edit = edit } ∷ [] }
moved after machine Publish = record machine { published = length machine.journal; earlier = published_content after machine }
moved after machine (Look session) = record machine { seen = set machine.seen session (published_count machine) }
moved after machine (Hear session count) = record machine { seen = set machine.seen session (max (seen_by machine session) count) }
moved after machine Checkpoint =
    record machine { opening = published_content after machine; limit = min machine.limit (most_entries - entry_count machine); base = entry_count machine; journal = []; published = 0; has_checkpoint = true }

-- The machine after its journal, which is empty, begins over this content under this limit. It is as if the content had been published twice.
abbrev pub reopened : {C E : Type 0} → C → ℕ → MachineRecord C E → MachineRecord C E
reopened opening limit machine = record machine { opening = opening; limit = min limit (most_entries - machine.base); earlier = opening }

module _ {E C W : Type 0} (after : C → E → C) (why : C → E → Option W) where
  -- The reply to an edit: the limit of the journal is tested first, then the working content.
  abbrev pub reply_to : MachineRecord C E → E → Reply W
  reply_to machine edit =
      if nat_le machine.limit (length machine.journal) then JournalFull else admitted (entry_count machine) (why (working_content after machine) edit)

  -- What is answered to an event: the first test that fails, else an edit's reply or a number.
  abbrev pub answer_to : MachineRecord C E → Event E → Result (Answer W) StepFault
  answer_to machine (Enter author edit) = if_session machine author (Ok (Replied (reply_to machine edit)))
  answer_to machine Publish = Ok (Published (entry_count machine))
  answer_to machine (Look session) = if_session machine session (Ok (Looked (published_count machine)))
  answer_to machine (Hear session count) =
      if_session machine session (if nat_le count (published_count machine) then Ok (Heard (max (seen_by machine session) count)) else Err Ahead)
  answer_to machine Checkpoint = if nat_le (length machine.journal) machine.published then Ok (Checkpointed (entry_count machine)) else Err Unpublished

  -- The machine after an event.
  abbrev pub machine_after : MachineRecord C E → Event E → MachineRecord C E
  machine_after machine event = unless_refused (answer_to machine event) machine (moved after machine event)

  -- The machine after events that come one after another.
  abbrev pub machine_run : MachineRecord C E → List (Event E) → MachineRecord C E
  machine_run machine events = fold machine_after machine events

  -- What is answered to events that come one after another.
  abbrev pub answers_to : MachineRecord C E → List (Event E) → List (Result (Answer W) StepFault)
  answers_to machine [] = []
  answers_to machine (event ∷ events) = answer_to machine event ∷ answers_to (machine_after machine event) events

  -- The edit that an event enters, by its answer: none, where that is no number.
  abbrev pub entered_by : Event E → Result (Answer W) StepFault → List E
  entered_by (Enter author edit) (Ok (Replied (Entered number))) = edit ∷ []
  entered_by _ _ = []

  -- The edits that are entered by events that come one after another, whatever checkpoints are among these.
  abbrev pub entered : MachineRecord C E → List (Event E) → List E
  entered machine [] = []
  entered machine (event ∷ events) = entered_by event (answer_to machine event) ++ entered (machine_after machine event) events
