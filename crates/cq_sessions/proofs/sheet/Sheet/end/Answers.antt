use Rattle.std.proofs.Common.{drop, option_map, string_bytes}
use Rattle.std.specs.Vec.Iter.{into_iter_items}
use Rattle.cq_sessions.specs.Steps.Sheets.{line_map}
use Rattle.cq_sessions.proofs.Sheets.{filled_on}
use Rattle.cq_sessions.proofs.Turns.{shorter}
use Rattle.cq_sessions.proofs.sheet.Sheet.end.Goals as goal

pub loop-line-preserved : goal.loop-line-preserved
loop-line-preserved g c = let at = c.loop-line in let inv = at.invariant in let steps = c.in-Some.ensures.steps.0 in record {
  filled = filled_on (option_map string_bytes) (line_map string_bytes) at.self-inside.replies.items c.push.new.self.items c.in_ok-reply.reply (into_iter_items at.line-iterator) (into_iter_items c.next.new.self) c.in-Some.line
      (drop at.next c.args.replies.now) (drop c.in_ok-reply.told c.args.replies.now) _ c.in_ok-push.ensures.items steps (c.in_ok-reply.ensures.fills _) inv.filled;
  batch = inv.batch;
  asked = inv.asked;
  numbers = inv.numbers;
  next = c.in_ok-reply.ensures.bound;
  counted = shorter _ _ _ _ _ inv.counted c.in-Some.ensures.steps.1 steps;
}
