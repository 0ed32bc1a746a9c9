use Rattle.std.proofs.Common.{◌-◌, ◌≤◌, vec_len}
use Rattle.cq_text.specs.Steps.Lists.{term_at, terms_at}
use Rattle.cq_text.specs.Forms.{most_terms}
use Rattle.cq_text.proofs.Loops.{SoFar}
use Rattle.cq_text.proofs.reading.Reader.terms.Given as goal

abbrev pub invariant-terms : goal.invariant-terms
invariant-terms g l = record {
  few : vec_len l.terms ≤ most_terms l.form;
  goes_on : SoFar term_at (most_terms l.form) l.terms.items (vec_len l.terms) l.self (terms_at l.form l.fn.self);
}

abbrev pub decreases-terms : goal.decreases-terms
decreases-terms g l = most_terms l.form - vec_len l.terms
