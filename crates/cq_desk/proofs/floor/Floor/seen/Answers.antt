use Rattle.std.proofs.Common.{◌+◌, ◌≤◌, IfSome, sym, subst}
use Rattle.cq_desk.specs.Machine.{published_count}
use Rattle.cq_desk.specs.Plain.{AreWithin}
use Rattle.cq_desk.proofs.Looking.{within-got}
use Rattle.cq_desk.proofs.floor.Floor.seen.Goals as goal

pub returns-clause-within : goal.returns-clause-within
returns-clause-within g c = let most = c.self.inside.turns.base + c.self.inside.turns.published in let found = c.get.ensures.lookup in
    subst (λ v. IfSome c.copied.result (λ count. count ≤ published_count v)) c.self.view_is (subst (λ r. IfSome r (λ count. count ≤ most)) (sym c.copied.ensures)
    (within-got most c.deref.result.now c.args.session c.get.result (subst (AreWithin most) (sym c.deref.ensures.value) c.self.invariant) found.0 found.1))
