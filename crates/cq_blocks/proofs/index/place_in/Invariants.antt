use Rattle.std.proofs.Common.{◌≡◌, ◌+◌, length, take}
use Rattle.cq_blocks.specs.Blocks.{elements, lists_of}
use Rattle.cq_blocks.proofs.index.place_in.Given as goal

abbrev pub invariant-each : goal.invariant-each
invariant-each g l = length (elements (take l.at (lists_of l.blocks))) + l.index ≡ l.fn.index
