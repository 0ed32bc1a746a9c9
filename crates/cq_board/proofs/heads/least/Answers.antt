use Rattle.std.proofs.Common.{get_or}
use Rattle.cq_board.proofs.Apart.{linear-misses}
use Rattle.cq_board.proofs.heads.least.Goals as goal

pub returns-then-is_still_linear : goal.returns-then-is_still_linear
returns-then-is_still_linear g c k d low miss =
    linear-misses c.args.wanted.now (get_or c.args.group.now.heads.items k d).atom.now (c.is_still_linear.ensures.atom c.if-is_still_linear.true)
    (c.requires (c.is_still_linear.ensures.before c.if-is_still_linear.true) k d low) miss
