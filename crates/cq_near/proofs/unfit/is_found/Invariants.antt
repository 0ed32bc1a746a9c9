use Rattle.std.proofs.Common.{◌≡◌}
use Rattle.std.specs.List.{list_any}
use Rattle.cq_near.specs.Unfit.{fits}
use Rattle.cq_near.proofs.unfit.is_found.Given as goal

-- whether one of all rows fits is whether one of those to come does
abbrev pub invariant-loop-row : goal.invariant-loop-row
invariant-loop-row g l = list_any (λ row. fits l.atom.terms row.values) l.row-iterator ≡ list_any (λ row. fits l.atom.terms row.values) l.initial.row-iterator
