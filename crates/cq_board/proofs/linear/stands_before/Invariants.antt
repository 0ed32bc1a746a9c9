use Rattle.std.proofs.Common.{◌≡◌, ℕ, ◌<◌, false, get_or}
use Rattle.cq_atom.specs.Atom.{TermContent}
use Rattle.cq_board.specs.Steps.Linear.{is_one_variable}
use Rattle.cq_board.proofs.linear.stands_before.Given as goal

-- the terms so far are not that variable
abbrev pub invariant-loop-before : goal.invariant-loop-before
invariant-loop-before g l = (i : ℕ) (d : TermContent) → i < l.before → is_one_variable (get_or l.terms i d) (get_or l.terms l.place d) ≡ false
