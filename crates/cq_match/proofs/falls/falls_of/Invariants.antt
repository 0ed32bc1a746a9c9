use Rattle.std.proofs.Common.{take}
use Rattle.std.specs.List.{AllZip}
use Rattle.cq_match.specs.Steps.Falls.{IsFallOf}
use Rattle.cq_match.proofs.falls.falls_of.Given as goal

abbrev pub invariant-loop-place : goal.invariant-loop-place
invariant-loop-place g l = AllZip (IsFallOf l.ranked l.starts l.counts) (take l.place-index l.round) l.falls.items
