use Rattle.std.proofs.Common.{◌≡◌, ◌≤◌, ◌-◌, length, drop}
use Rattle.cq_text.specs.Lexing.{content}
use Rattle.cq_text.proofs.Quotes.{with_text, with_pending}
use Rattle.cq_text.proofs.quoting.content.Given as goal

abbrev pub invariant-runs : goal.invariant-runs
invariant-runs g l = record {
  order : l.at ≤ l.seen;
  within : l.seen ≤ length l.bytes;
  reads : with_text (with_pending l.text.items l.at l.seen l.bytes) l.seen (content (drop l.seen l.bytes)) ≡ content l.bytes;
}

abbrev pub decreases-runs : goal.decreases-runs
decreases-runs g l = length l.bytes - l.seen
