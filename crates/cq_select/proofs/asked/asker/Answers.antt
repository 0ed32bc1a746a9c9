use Rattle.std.proofs.Common.{refl}
use Rattle.cq_select.proofs.Reading.{asker-at}
use Rattle.cq_select.proofs.asked.asker.Goals as goal

pub returns-then-list-eq0 : goal.returns-then-list-eq0
returns-then-list-eq0 g c = rw c.if-list-eq0.true refl

pub returns-else-list-eq0 : goal.returns-else-list-eq0
returns-else-list-eq0 g c = asker-at c.args.frames.now c.args.list c.index-frames-list.result c.if-list-eq0.false c.requires
