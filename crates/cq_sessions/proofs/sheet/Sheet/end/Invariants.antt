use Rattle.std.proofs.Common.{◌≡◌, ◌≤◌, ◌++◌, [], length, drop, map, option_map, string_bytes}
use Rattle.std.specs.Vec.Iter.{into_iter_items, into_iter_len}
use Rattle.cq_sessions.specs.Steps.Sheets.{filled, line_map}
use Rattle.cq_sessions.proofs.sheet.Sheet.end.Given as goal

abbrev pub invariant-loop-line : goal.invariant-loop-line
invariant-loop-line g l = record {
  filled : map (option_map string_bytes) l.self-inside.replies.items ++ filled (map (line_map string_bytes) (into_iter_items l.line-iterator)) (drop l.next l.replies) ≡ l.fn.self.replies ++ filled l.fn.self.batch l.replies;
  batch : l.self-inside.batch.items ≡ [];
  asked : l.self-inside.gathered.items ≡ l.fn.self.asked;
  numbers : l.self-inside.numbers.items ≡ l.fn.self.numbers;
  next : l.next ≤ length l.replies;
  counted : into_iter_len l.line-iterator ≡ length (into_iter_items l.line-iterator);
}
