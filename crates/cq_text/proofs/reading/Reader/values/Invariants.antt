use Rattle.std.proofs.Common.{◌-◌, ◌≤◌, vec_len}
use Rattle.cq_text.specs.Steps.Lists.{value_at, values_at}
use Rattle.cq_text.specs.Forms.{most_terms}
use Rattle.cq_text.proofs.Loops.{SoFar}
use Rattle.cq_text.proofs.reading.Reader.values.Given as goal

abbrev pub invariant-values : goal.invariant-values
invariant-values g l = record {
  few : vec_len l.values ≤ most_terms l.form;
  goes_on : SoFar value_at (most_terms l.form) l.values.items (vec_len l.values) l.self (values_at l.form l.fn.self);
}

abbrev pub decreases-values : goal.decreases-values
decreases-values g l = most_terms l.form - vec_len l.values
