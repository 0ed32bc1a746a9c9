use Rattle.cq_sessions.proofs.Sheets.{told-on, told-end}
use Rattle.cq_sessions.proofs.sheet.push_numbers.Goals as goal

pub loop-reply-preserved : goal.loop-reply-preserved
loop-reply-preserved g c = let at = c.loop-reply in
    told-on at.numbers.items c.push_number.new.numbers.items _ at.left.now _ _ c.in-Some.ensures.cases.0 c.in_ok-push_number.ensures at.invariant

pub returns : goal.returns
returns g c = told-end c.loop-reply.numbers.items _ c.loop-reply.left.now c.in_default.ensures.cases c.loop-reply.invariant
