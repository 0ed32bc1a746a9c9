use Rattle.std.proofs.Common.{ap, arith}
use Rattle.cq_room.specs.Marks.{entries_in}
use Rattle.cq_room.proofs.Seats.{seated_on}
use Rattle.cq_room.proofs.parts.seats.Goals as goal

pub loop-number-preserved : goal.loop-number-preserved
loop-number-preserved g c = let at = c.loop-number in let inv = at.invariant in
    let len = inv.1 in let room = inv.2 in let more = c.push_reserved.ensures.len in let same = c.push_reserved.ensures.capacity in (
      seated_on at.number c.args.pair.now.shown (entries_in c.args.entered.now) at.seated.items c.push_reserved.new.self.items c.in-Ok.session inv.0 c.push_reserved.ensures.items c.in-Ok.ensures c.requires.shown (ap entries_in c.requires.entered),
      omega (arith, len, more),
      omega (arith, room, same),
    )
