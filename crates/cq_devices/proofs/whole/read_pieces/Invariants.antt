use Rattle.std.proofs.Common.{◌≡◌, ◌+◌, length}
use Rattle.std.specs.Io.KnownBytes.{Consumes}
use Rattle.cq_devices.proofs.whole.read_pieces.Given as goal

abbrev pub invariant-loop-i : goal.invariant-loop-i
invariant-loop-i g l = record {
  read : Consumes (g.R.Source.left l.fn.source) (g.R.Source.left l.source) l.bytes.items;
  reads : g.R.Source.reads_made l.source ≡ g.R.Source.reads_made l.fn.source + l.i;
  failures : g.R.Source.failures_met l.source ≡ g.R.Source.failures_met l.fn.source;
  room : length l.piece ≡ length l.fn.piece;
}
