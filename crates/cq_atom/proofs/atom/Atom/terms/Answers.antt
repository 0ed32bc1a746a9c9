use Rattle.std.proofs.Common.{◌≤◌, length, subst}
use Rattle.std.specs.Arc.{arc_value}
use Rattle.cq_atom.specs.Limits.{max_arity}
use Rattle.cq_atom.specs.Atom.{AtomRecord}
use Rattle.cq_atom.proofs.Arity.{count-some, count-few}
use Rattle.cq_atom.proofs.atom.Atom.terms.Goals as goal

pub returns-clause-some : goal.returns-clause-some
returns-clause-some g c =
    let parts = arc_value c.self.inside.parts in
    subst (λ (a : AtomRecord). 1 ≤ length a.terms) c.self.view_is (count-some parts.relation (length parts.terms.items) c.self.invariant)

pub returns-clause-few : goal.returns-clause-few
returns-clause-few g c =
    let parts = arc_value c.self.inside.parts in
    subst (λ (a : AtomRecord). length a.terms ≤ max_arity) c.self.view_is (count-few parts.relation (length parts.terms.items) c.self.invariant)
