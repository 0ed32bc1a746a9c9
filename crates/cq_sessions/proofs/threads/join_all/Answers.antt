use Rattle.std.proofs.Common.{[], ◌∷◌, ◌++◌, length, map, sym, ap, subst, ◌∙◌, arith, length-append}
use Rattle.cq_sessions.specs.Steps.Sheets.{LeavesEach}
use Rattle.cq_sessions.proofs.Rooms.{length_map}
use Rattle.cq_sessions.proofs.Jobs.{leaves_on}
use Rattle.cq_sessions.proofs.Turns.{turned, shorter, map-snoc}
use Rattle.cq_sessions.proofs.threads.join_all.Goals as goal

pub loop-child-preserved : goal.loop-child-preserved
loop-child-preserved g c = let at = c.loop-child in let inv = at.invariant in let steps = c.in-Some.ensures.steps.0 in
    let is = c.in_ok-push.ensures.items in
    record {
      all = turned at.yielded _ _ _ c.in-Some.child inv.all steps;
      counted = shorter _ _ _ _ _ inv.counted c.in-Some.ensures.steps.1 steps;
      many = let a = length-append at.yielded (c.in-Some.child ∷ []) in let b = length-append at.lefts.items (c.join.result ∷ []) in let d = ap length is in omega (arith, a, b, d, inv.many);
      left = subst (λ z. LeavesEach g.J.Job.leaves z c.push.new.self.items) (sym (map-snoc (λ child. child.handle.promise.0.value) at.yielded c.in-Some.child))
          (subst (λ z. LeavesEach g.J.Job.leaves (map (λ child. child.handle.promise.0.value) at.yielded ++ c.in-Some.child.handle.promise.0.value ∷ []) z) (sym is)
          (leaves_on g.J.Job.leaves (map (λ child. child.handle.promise.0.value) at.yielded) at.lefts.items c.in-Some.child.handle.promise.0.value c.join.result (length_map (λ child. child.handle.promise.0.value) at.yielded ∙ inv.many) inv.left c.join.ensures));
    }
