use Rattle.std.proofs.Common.{◌+◌, ◌<◌, ◌≤◌, length, arith, subst, sym}
use Rattle.std.proofs.Math.Nat.{max-le}
use Rattle.cq_desk.proofs.Counting.{within-set, within-get}
use Rattle.cq_desk.proofs.floor.Floor.hear.Goals as goal

pub invariant_of-self : goal.invariant_of-self
invariant_of-self g c = let most = c.self.inside.turns.base + c.self.inside.turns.published in let seen = c.self.inside.seen.items in let old = c.index.result.now in
    let ahead = c.if-count-published.false in let is = c.published.ensures.value in let told : c.args.count ≤ most = omega (arith, ahead, is) in
    let past = c.if-session-len.false in let count = c.len.ensures in let len = c.self.inside.seen.ok.0 in
    let within : c.args.session < length seen = omega (arith, past, count, len) in
    let short : old ≤ most = subst (λ n. n ≤ most) (sym c.index.ensures) (within-get most seen c.args.session old within c.self.invariant) in
    within-set most seen c.args.session c.max-heard.result c.self.invariant (subst (λ n. n ≤ most) (sym c.max-heard.ensures) (max-le short told))
