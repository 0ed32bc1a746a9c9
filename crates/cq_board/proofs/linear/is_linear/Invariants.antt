use Rattle.std.proofs.Common.{◌≡◌, ℕ, ◌<◌, false, get_or}
use Rattle.cq_atom.specs.Atom.{TermContent}
use Rattle.cq_board.specs.Steps.Linear.{is_one_variable, IsSoundTerm}
use Rattle.cq_board.proofs.linear.is_linear.Given as goal

-- no variable stands twice in the terms so far
abbrev pub invariant-loop-place : goal.invariant-loop-place
invariant-loop-place g l = record {
  apart : (i j : ℕ) (d : TermContent) → i < j → j < l.place → is_one_variable (get_or l.terms i d) (get_or l.terms j d) ≡ false;
  sound : (i : ℕ) (d : TermContent) → i < l.place → IsSoundTerm (get_or l.terms i d);
}
