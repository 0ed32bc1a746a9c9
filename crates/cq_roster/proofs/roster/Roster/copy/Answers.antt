use Rattle.std.proofs.Common.{ap, ◌∙◌}
use Rattle.std.specs.Map.{values_of}
use Rattle.cq_roster.proofs.Walked.{order-copied, numbers-copied, kept-copied}
use Rattle.cq_roster.proofs.roster.Roster.copy.Goals as goal

pub invariant_of-result : goal.invariant_of-result
invariant_of-result g c =
    let kept = c.self.inside.kept in
    kept-copied kept.order.entries c.in_ok-order.order.entries kept.numbers.entries c.in_ok-numbers.numbers.entries kept.next
    (order-copied kept.order.entries c.in_ok-order.order.entries c.in_ok-order.ensures.cases) (numbers-copied kept.numbers.entries c.in_ok-numbers.numbers.entries c.in_ok-numbers.ensures.cases) c.self.invariant

pub returns : goal.returns
returns g c = ap values_of (order-copied c.self.inside.kept.order.entries c.in_ok-order.order.entries c.in_ok-order.ensures.cases) ∙ c.self.view_is
