use Rattle.std.proofs.Common.{◌≡◌, ◌++◌, length}
use Rattle.std.specs.Vec.Iter.{into_iter_items, into_iter_len}
use Rattle.cq_sessions.specs.Steps.Rooms.{AreDone}
use Rattle.cq_sessions.proofs.files.take_apart.Given as goal

abbrev pub invariant-loop-left : goal.invariant-loop-left
invariant-loop-left g l = record {
  all : l.yielded ++ into_iter_items l.left-iterator ≡ into_iter_items l.initial.left-iterator;
  counted : into_iter_len l.left-iterator ≡ length (into_iter_items l.left-iterator);
  done : AreDone l.yielded l.clients.items l.sheets.items;
}
