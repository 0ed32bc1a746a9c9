use Rattle.std.proofs.Common.{◌≡◌, ◌++◌, length, map}
use Rattle.std.specs.Vec.Iter.{into_iter_items, into_iter_len}
use Rattle.cq_sessions.specs.Steps.Sheets.{LeavesEach}
use Rattle.cq_sessions.proofs.threads.join_all.Given as goal

abbrev pub invariant-loop-child : goal.invariant-loop-child
invariant-loop-child g l = record {
  all : l.yielded ++ into_iter_items l.child-iterator ≡ into_iter_items l.initial.child-iterator;
  counted : into_iter_len l.child-iterator ≡ length (into_iter_items l.child-iterator);
  many : length l.yielded ≡ length l.lefts.items;
  left : LeavesEach g.J.Job.leaves (map (λ child. child.handle.promise.0.value) l.yielded) l.lefts.items;
}
