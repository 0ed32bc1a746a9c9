use Rattle.std.proofs.Common.{All, take}
use mathlib.Core.List.{IsPrefix}
use Rattle.cq_desk.specs.History.{edits_of}
use Rattle.cq_room.proofs.parts.knows_all.Given as goal

abbrev pub invariant-loop-session : goal.invariant-loop-session
invariant-loop-session g l = All (λ s. IsPrefix (edits_of s.history) l.desk.journal × IsPrefix s.known l.desk.journal) (take l.session-index l.sessions)
