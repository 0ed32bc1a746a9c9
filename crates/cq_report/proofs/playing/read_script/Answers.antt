use Rattle.std.proofs.Common.{◌≡◌, List, IfSome}
use Rattle.std.proofs.lemmas.Result.{on_ok_weaker}
use Rattle.cq_devices.specs.Device.{FailedAtTurn}
use Rattle.cq_report.specs.Lines.{lines_of}
use Rattle.cq_report.specs.Reading.{Reading}
use Rattle.cq_report.specs.Output.{AreReadings, Left, left_after}
use Rattle.cq_report.proofs.Ending.{failed_reads, failed_turn}
use Rattle.cq_report.proofs.Scripts.{ServedOut-left, ServedOut-readings}
use Rattle.cq_report.proofs.Leaving.{never_written, IsPlayed-left, IsPlayed-on, IsPlayed-turn, IsPlayed-unread, IsPlayed-no_write}
use Rattle.cq_report.proofs.playing.read_script.Goals as goal

pub returns-clause-left : goal.returns-clause-left
returns-clause-left g c =
    IsPlayed-left _ c.serve-ended.result _
    (λ (left : Left). IfSome (g.R.Source.left c.args.reader.now) (λ input. (readings : List Reading) → AreReadings (lines_of input) readings → left ≡ left_after readings))
    c.left_by.ensures (on_ok_weaker c.serve-ended.result (λ r. ServedOut-left c.one_reading.ensures.commands _ _ _ _ _ _ _ _ c.begin-script.ensures.state c.new-output.ensures.held r) c.serve-ended.ensures.ok)

pub returns-clause-readings : goal.returns-clause-readings
returns-clause-readings g c =
    IsPlayed-on _ c.serve-ended.result _ _ c.left_by.ensures (on_ok_weaker c.serve-ended.result (λ r. ServedOut-readings c.one_reading.ensures.commands _ _ _ _ _ _ _ _ c.begin-script.ensures.state c.new-output.ensures.held r) c.serve-ended.ensures.ok)

pub returns-clause-turn : goal.returns-clause-turn
returns-clause-turn g c =
    IsPlayed-turn _ c.serve-ended.result _
    (λ turn. FailedAtTurn turn (g.R.Source.reads_made c.args.reader.now) (g.R.Source.reads_made c.serve-ended.new.reader) (g.R.Source.failures_met c.args.reader.now) (g.R.Source.failures_met c.serve-ended.new.reader))
    c.left_by.ensures (failed_turn c.serve-ended.result _ _ _ _ _ c.serve-ended.ensures.read_failures)

pub returns-clause-read_failures : goal.returns-clause-read_failures
returns-clause-read_failures g c = IsPlayed-unread _ c.serve-ended.result _ _ c.left_by.ensures (failed_reads c.serve-ended.result _ _ _ _ c.serve-ended.ensures.read_failures)

pub returns-clause-no_write : goal.returns-clause-no_write
returns-clause-no_write g c = IsPlayed-no_write _ c.serve-ended.result _ c.left_by.ensures (never_written c.serve-ended.result _ c.serve-ended.ensures.write_failures)
