use Rattle.std.proofs.Common.{◌+◌, ◌≤◌, get_or, arith, subst}
use Rattle.cq_desk.specs.Machine.{seen_by}
use Rattle.cq_desk.proofs.Counting.{within-set}
use Rattle.cq_desk.proofs.Looking.{within-seen}
use Rattle.cq_desk.proofs.floor.Floor.look.Goals as goal

pub invariant_of-self : goal.invariant_of-self
invariant_of-self g c = let most = c.self.inside.turns.base + c.self.inside.turns.published in let count = c.published-count.ensures.value in
    within-set most c.self.inside.seen.items c.args.session c.published-count.result c.self.invariant (omega (arith, count))

pub returns-clause-seen : goal.returns-clause-seen
returns-clause-seen g c = let most = c.self.inside.turns.base + c.self.inside.turns.published in let count = c.published-count.ensures.value in
    let within : get_or c.self.inside.seen.items c.args.session 0 ≤ most = within-seen most c.self.inside.seen.items c.args.session c.self.invariant in
    subst (λ v. seen_by v c.args.session ≤ c.published-count.result) c.self.view_is (omega (arith, count, within))
