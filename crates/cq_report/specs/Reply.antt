-- What comes of a line, and how it reads in words: whole lines, or nothing. (this project's profile)
use Rattle.std.specs.Prelude.{ℕ, List, [], ◌++◌, codes, decimal, Option, Some, None, Result, Ok, Err}
use Rattle.cq_board.specs.declared.edit.Why.{Why}
use Rattle.cq_desk.specs.declared.event.Answer.{Answer}
use Rattle.cq_desk.specs.declared.event.Answer.TheVariants as answers
use Rattle.cq_desk.specs.declared.event.StepFault.{StepFault}
use Rattle.cq_desk.specs.declared.event.StepFault.TheVariants as faults
use Rattle.cq_desk.specs.declared.reply.Reply.{Reply}
use Rattle.cq_desk.specs.declared.reply.Reply.TheVariants as replies
use Rattle.cq_render.specs.Report.{line}
use Rattle.cq_ask.specs.Answer.{ending}
use Rattle.cq_report.specs.declared.outcome.Outcome.{Outcome}
use Rattle.cq_report.specs.declared.outcome.Outcome.TheVariants.{Silent, Accepted, Entered, Published, Shown, Answered, Checkpointed, Quit, Refused}
use Rattle.cq_report.specs.declared.refusal.Refusal.{Refusal}
use Rattle.cq_report.specs.declared.refusal.Refusal.TheVariants.{Pool, JournalFull, Unpublished}
use Rattle.cq_report.specs.Refusals.{refusal_words}

-- ---- what comes of events

-- What comes of an edit: its entry, or why it has none.
abbrev pub reply_outcome : Reply Why → Outcome
reply_outcome (replies.Entered number) = Entered number
reply_outcome replies.JournalFull = Refused JournalFull
reply_outcome (replies.Not why) = Refused (Pool why)

-- What comes of an event, by its answer. That a session hears of a count has no reply.
abbrev pub answer_outcome : Answer Why → Outcome
answer_outcome (answers.Replied reply) = reply_outcome reply
answer_outcome (answers.Published count) = Published count
answer_outcome (answers.Looked count) = Shown count
answer_outcome (answers.Heard count) = Silent
answer_outcome (answers.Checkpointed count) = Checkpointed count

-- What comes of an event without an answer: a checkpoint is refused where entries are not published. Nothing else has a reply: the one session of a script
-- is there, it hears of no count, and out of memory ends the run, or is refused as a line.
abbrev pub fault_outcome : StepFault → Outcome
fault_outcome faults.Unpublished = Refused Unpublished
fault_outcome faults.NoSession = Silent
fault_outcome faults.Ahead = Silent
fault_outcome faults.NoMemory = Silent

-- What comes of an event.
abbrev pub event_outcome : Result (Answer Why) StepFault → Outcome
event_outcome (Ok answer) = answer_outcome answer
event_outcome (Err fault) = fault_outcome fault

-- Why a line is refused, by what comes of it, if it is refused.
abbrev pub refusal : Outcome → Option Refusal
refusal Silent = None
refusal Accepted = None
refusal (Entered number) = None
refusal (Published count) = None
refusal (Shown count) = None
refusal (Answered kind) = None
refusal (Checkpointed count) = None
refusal Quit = None
refusal (Refused why) = Some why

-- ---- in words

-- The line of a reply. A look shows how many entries are published.
abbrev pub outcome_line : Outcome → List ℕ
outcome_line Silent = []
outcome_line Accepted = line (codes "ok")
outcome_line (Entered number) = line (codes "ok " ++ decimal number)
outcome_line (Published count) = line (codes "published " ++ decimal count)
outcome_line (Shown count) = line (codes "show " ++ decimal count)
outcome_line (Answered kind) = []
outcome_line (Checkpointed count) = line (codes "checkpoint " ++ decimal count)
outcome_line Quit = []
outcome_line (Refused why) = line (codes "refused " ++ refusal_words why)

-- What ends a reply: the last line of what a look shows, or of an answer.
abbrev pub outcome_end : Outcome → List ℕ
outcome_end Silent = []
outcome_end Accepted = []
outcome_end (Entered number) = []
outcome_end (Published count) = []
outcome_end (Shown count) = line (codes "end")
outcome_end (Answered kind) = ending kind
outcome_end (Checkpointed count) = []
outcome_end Quit = []
outcome_end (Refused why) = []
