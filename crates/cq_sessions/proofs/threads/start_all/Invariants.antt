use Rattle.std.proofs.Common.{◌≡◌, ◌++◌, length, map}
use Rattle.std.specs.Vec.Iter.{into_iter_items, into_iter_len}
use Rattle.cq_sessions.proofs.threads.start_all.Given as goal

abbrev pub invariant-loop-job : goal.invariant-loop-job
invariant-loop-job g l = record {
  all : l.yielded ++ into_iter_items l.job-iterator ≡ into_iter_items l.initial.job-iterator;
  counted : into_iter_len l.job-iterator ≡ length (into_iter_items l.job-iterator);
  started : map (λ child. child.handle.promise.0.value) l.children.items ≡ l.yielded;
}
