-- What a floor answers beside the machine, and why it does not begin. (this project's profile)
use Rattle.std.specs.Prelude.{◌≡◌, ℕ, List, [], ◌∷◌, length, nat_le, ◌&&◌, if◌then◌else◌, Option, Some, None, ⊤, Result, Ok, Err}
use Rattle.cq_desk.specs.declared.event.Answer.{Answer}
use Rattle.cq_desk.specs.declared.event.Answer.TheVariants.{Replied, Checkpointed}
use Rattle.cq_desk.specs.declared.event.StepFault.{StepFault}
use Rattle.cq_desk.specs.declared.event.StepFault.TheVariants.{NoMemory}
use Rattle.cq_desk.specs.declared.reply.Reply.{Reply}
use Rattle.cq_desk.specs.declared.reply.Reply.TheVariants.{Entered, Not}
use Rattle.cq_desk.specs.declared.floor.FloorFault.{FloorFault}
use Rattle.cq_desk.specs.declared.floor.FloorFault.TheVariants.{Sessions}
use Rattle.cq_desk.specs.declared.floor.ReopenFault.{ReopenFault}
use Rattle.cq_desk.specs.declared.floor.ReopenFault.TheVariants.{Late}
use Rattle.cq_desk.specs.declared.event.Event.{Event}
use Rattle.cq_desk.specs.Machine.{MachineRecord, answer_to}

-- Why a floor with so many sessions does not begin.
abbrev pub sessions_fault : ℕ → Option FloorFault
sessions_fault sessions = if nat_le 1 sessions && nat_le sessions 16 then None else Some Sessions

-- Why a journal does not begin over another content.
abbrev pub reopen_fault : {C E : Type 0} → MachineRecord C E → Option ReopenFault
reopen_fault machine = if nat_le (length machine.journal) 0 then None else Some Late

-- Out of memory is answered only where some is needed: where the machine would enter an edit, or refuse it for the state's reason, or make a checkpoint.
abbrev pub MayWant : {W : Type 0} → Result (Answer W) StepFault → Type 0
MayWant (Ok (Replied (Entered number))) = ⊤
MayWant (Ok (Replied (Not reason))) = ⊤
MayWant (Ok (Checkpointed count)) = ⊤
MayWant _ = ⊥

-- The answer to an event that enters an edit, by the reply to the edit.
abbrev pub replied : {W : Type 0} → Result (Reply W) StepFault → Result (Answer W) StepFault
replied (Ok reply) = Ok (Replied reply)
replied (Err fault) = Err fault

-- The answer to a checkpoint, by how many entries there are then.
abbrev pub checkpointed : {W : Type 0} → Result ℕ StepFault → Result (Answer W) StepFault
checkpointed (Ok count) = Ok (Checkpointed count)
checkpointed (Err fault) = Err fault

-- What is answered is what the machine answers, or out of memory.
abbrev pub IsTold : {W : Type 0} → Result (Answer W) StepFault → Result (Answer W) StepFault → Type 0
IsTold answer (Err NoMemory) = MayWant answer
IsTold answer told = answer ≡ told

-- The first of the events that have not happened is one at which memory may run out.
abbrev pub StopsAt : {C E W : Type 0} → (C → E → C) → (C → E → Option W) → MachineRecord C E → List (Event E) → Type 0
StopsAt after why machine [] = ⊥
StopsAt after why machine (event ∷ events) = MayWant (answer_to after why machine event)
