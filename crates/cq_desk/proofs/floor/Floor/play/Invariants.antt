use Rattle.std.proofs.Common.{◌≡◌, ◌+◌, ◌≤◌, ◌++◌, length, vec_len, vec_capacity}
use Rattle.std.specs.Vec.Iter.{into_iter_items, into_iter_len}
use Rattle.cq_desk.specs.Machine.{answers_to, machine_run}
use Rattle.cq_desk.proofs.floor.Floor.play.Given as goal

abbrev pub invariant-loop-event : goal.invariant-loop-event
invariant-loop-event g l = let a = l.initial.self in
    (l.yielded ++ into_iter_items l.event-iterator ≡ into_iter_items l.initial.event-iterator)
    × (into_iter_len l.event-iterator ≡ length (into_iter_items l.event-iterator))
    × (length l.answers.items ≡ length l.yielded)
    × (vec_len l.answers + length (into_iter_items l.event-iterator) ≤ vec_capacity l.answers)
    × (l.answers.items ≡ answers_to g.L.Live.after g.L.Live.why a l.yielded)
    × (l.self ≡ machine_run g.L.Live.after g.L.Live.why a l.yielded)
