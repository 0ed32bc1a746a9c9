use Rattle.std.proofs.Common.{◌≤◌, length, subst}
use Rattle.std.specs.Arc.{arc_value}
use Rattle.cq_atom.specs.Limits.{max_arity}
use Rattle.cq_atom.specs.Atom.{RowRecord}
use Rattle.cq_atom.proofs.Arity.{count-some, count-few}
use Rattle.cq_atom.proofs.row.Row.values.Goals as goal

pub returns-clause-some : goal.returns-clause-some
returns-clause-some g c =
    let parts = arc_value c.self.inside.parts in
    subst (λ (r : RowRecord). 1 ≤ length r.values) c.self.view_is (count-some parts.relation (length parts.values.items) c.self.invariant)

pub returns-clause-few : goal.returns-clause-few
returns-clause-few g c =
    let parts = arc_value c.self.inside.parts in
    subst (λ (r : RowRecord). length r.values ≤ max_arity) c.self.view_is (count-few parts.relation (length parts.values.items) c.self.invariant)
