use Rattle.std.proofs.Common.{◌≡◌, length, take}
use Rattle.cq_blocks.specs.Blocks.{elements, lists_of}
use Rattle.cq_blocks.proofs.index.index_in.Given as goal

abbrev pub invariant-each : goal.invariant-each
invariant-each g l = l.before ≡ length (elements (take l.block-index (lists_of l.blocks)))
