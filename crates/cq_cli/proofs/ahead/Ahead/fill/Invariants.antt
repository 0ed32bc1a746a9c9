use Rattle.std.proofs.Common.{◌≡◌, ◌-◌, length}
use Rattle.std.specs.Io.KnownBytes.{Keeps}
use Rattle.cq_cli.specs.Devices.{left_of}
use Rattle.cq_cli.proofs.ahead.Ahead.fill.Given as goal

-- what is left stays the same, held or not
abbrev pub invariant-loop-self : goal.invariant-loop-self
invariant-loop-self g l = record {
  bytes : Keeps (left_of g.D.Read.remaining l.initial.self) (left_of g.D.Read.remaining l.self);
  reads : l.self.reads ≡ l.initial.self.reads;
  failures : l.self.failures ≡ l.initial.self.failures;
}

abbrev pub decreases-loop-self : goal.decreases-loop-self
decreases-loop-self g l = 4096 - length l.self.held
