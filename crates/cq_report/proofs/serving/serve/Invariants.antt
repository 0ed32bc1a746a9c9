use Rattle.std.proofs.Common.{◌≡◌, ◌+◌, ◌*◌, ◌≤◌, ℕ, List, length, [], false}
use Rattle.std.specs.Io.KnownBytes.{Consumes}
use Rattle.cq_report.specs.Live.{is_done}
use Rattle.cq_report.specs.Steps.Count.{lines_before}
use Rattle.cq_report.specs.Steps.Serving.{Served, IsSound}
use Rattle.cq_report.proofs.serving.serve.Given as goal

-- what was read and served so far
abbrev pub invariant-loop-i : goal.invariant-loop-i
invariant-loop-i g l = record {
  bytes : List ℕ;
  read : Consumes (g.R.Source.left l.fn.reader) (g.R.Source.left l.reader) bytes;
  served : Served l.manner g.W.Sink.taken g.W.Sink.write_failures l.fn.output l.fn.script l.output l.script l.line bytes;
  goes_on : is_done l.manner l.script ≡ false;
  lines : lines_before l.script ≤ l.i * 4096;
  sound : IsSound g.W.Sink.write_failures l.fn.output l.output;
  held : l.output.held.now.items ≡ [];
  reads : g.R.Source.reads_made l.reader ≡ g.R.Source.reads_made l.fn.reader + l.i;
  failures : g.R.Source.failures_met l.reader ≡ g.R.Source.failures_met l.fn.reader;
  room : length l.piece ≡ length l.fn.piece;
}
