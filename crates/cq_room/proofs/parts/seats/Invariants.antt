use Rattle.std.proofs.Common.{◌≡◌, ◌≤◌, vec_len, vec_capacity}
use Rattle.cq_room.specs.Sessions.{newcomers}
use Rattle.cq_room.proofs.parts.seats.Given as goal

abbrev pub invariant-loop-number : goal.invariant-loop-number
invariant-loop-number g l = (l.seated.items ≡ newcomers l.number) × (vec_len l.seated ≡ l.number) × (l.sessions ≤ vec_capacity l.seated)
