use Rattle.std.proofs.Common.{map}
use Rattle.cq_sessions.proofs.Jobs.{leaves_front}
use Rattle.cq_sessions.proofs.threads.run_in.Goals as goal

pub returns : goal.returns
returns g c = leaves_front g.J.Job.leaves (map (λ child. child.handle.promise.0.value) c.start_all.new.children.items) c.args.jobs.items c.join_all.new.lefts.items c.in_ok-start_all.ensures c.in_ok-join_all.ensures
