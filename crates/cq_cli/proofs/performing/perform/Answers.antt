use Rattle.std.proofs.Common.{refl}
use Rattle.std.specs.Option.{is_some}
use Rattle.cq_cli.specs.Devices.{counts, LeavesRefused, ReportsFailures}
use Rattle.cq_cli.proofs.Telling.{over_refused, over_reported, sink_reported}
use Rattle.cq_cli.proofs.performing.perform.Goals as goal
use Rattle.cq_cli.proofs.performing.perform.Goals.{in-Err, in-Ok-Replay, in-Ok-Replay-2, in-Ok-Live, in-Ok-Rows, in-Ok-Sessions, in-Ok-Look, in-Ok-Version}

pub returns-clause-failures : goal.returns-clause-failures
returns-clause-failures g c =
    let before = counts g.R.Source.reads_made g.R.Source.failures_met g.W.Sink.write_failures c.args.source.now c.args.sink.now in
    let after = counts g.R.Source.reads_made g.R.Source.failures_met g.W.Sink.write_failures c.match-task.source c.match-task.sink in
    let told : ReportsFailures before after c.match-task.status = elim c.match-task.branch [
      | in-Err w ↦ rw (w.source-is, w.sink-is, w.status-is) (sink_reported _ _ _ refl w.answer_no_task-status.ensures.failures)
      | in-Ok-Replay w ↦ rw (w.source-is, w.sink-is, w.status-is) w.replay_explained-status.ensures.failures
      | in-Ok-Replay-2 w ↦ rw (w.source-is, w.sink-is, w.status-is) w.replay-status.ensures.failures
      | in-Ok-Live w ↦ rw (w.source-is, w.sink-is, w.status-is) w.answer_lines-status.ensures.failures
      | in-Ok-Rows w ↦ rw (w.source-is, w.sink-is, w.status-is) w.answer_rows-status.ensures.failures
      | in-Ok-Sessions w ↦ rw (w.source-is, w.sink-is, w.status-is) (sink_reported _ _ _ refl w.answer_sessions-status.ensures.failures)
      | in-Ok-Look w ↦ rw (w.source-is, w.sink-is, w.status-is) w.answer_look-status.ensures.failures
      | in-Ok-Version w ↦ rw (w.source-is, w.sink-is, w.status-is) (sink_reported _ _ _ refl w.say-status.ensures.failures)
    ] in
    rw (c.end_over.ensures, c.failures-before.ensures) (over_reported (is_some c.args.file) before after c.match-task.status told)

pub returns-clause-refused : goal.returns-clause-refused
returns-clause-refused g c =
    let left : LeavesRefused c.args.source.now c.match-task.source c.args.sink.now c.match-task.sink c.match-task.status = elim c.match-task.branch [
      | in-Err w ↦ rw (w.source-is, w.sink-is, w.status-is) (record { refused = w.answer_no_task-status.ensures.refused; unread = λ _. refl })
      | in-Ok-Replay w ↦ rw (w.source-is, w.sink-is, w.status-is) w.replay_explained-status.ensures.refused
      | in-Ok-Replay-2 w ↦ rw (w.source-is, w.sink-is, w.status-is) w.replay-status.ensures.refused
      | in-Ok-Live w ↦ rw (w.source-is, w.sink-is, w.status-is) w.answer_lines-status.ensures.refused
      | in-Ok-Rows w ↦ rw (w.source-is, w.sink-is, w.status-is) w.answer_rows-status.ensures.refused
      | in-Ok-Sessions w ↦ rw (w.source-is, w.sink-is, w.status-is) (record { refused = w.answer_sessions-status.ensures.refused; unread = λ _. refl })
      | in-Ok-Look w ↦ rw (w.source-is, w.sink-is, w.status-is) w.answer_look-status.ensures.refused
      | in-Ok-Version w ↦ rw (w.source-is, w.sink-is, w.status-is) (record { refused = w.say-status.ensures.refused; unread = λ _. refl })
    ] in
    rw c.end_over.ensures (over_refused _ _ _ _ _ _ c.match-task.status left)
