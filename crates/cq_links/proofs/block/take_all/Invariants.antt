use Rattle.std.proofs.Common.{◌*◌}
use Rattle.cq_atom.specs.declared.limits.TheConstants.{MAX_ATOMS}
use Rattle.cq_links.specs.Steps.Blocks.{TakesBlock}
use Rattle.cq_links.proofs.block.take_all.Given as goal

abbrev pub invariant-loop-i : goal.invariant-loop-i
invariant-loop-i g l = TakesBlock (l.place * MAX_ATOMS) l.i l.fn.index l.index
