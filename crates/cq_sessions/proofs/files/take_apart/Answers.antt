use Rattle.std.proofs.Common.{[], ◌∷◌, ◌++◌, sym, subst, ◌∙◌}
use Rattle.cq_sessions.specs.Steps.Rooms.{AreDone}
use Rattle.cq_sessions.proofs.Rooms.{done_on}
use Rattle.cq_sessions.proofs.Turns.{turned, shorter, over}
use Rattle.cq_sessions.proofs.files.take_apart.Goals as goal

pub loop-left-preserved : goal.loop-left-preserved
loop-left-preserved g c = let at = c.loop-left in let inv = at.invariant in let steps = c.in-Some.ensures.steps.0 in
    let left = c.in-Some.left in let done = c.in_ok-client.field-0 in record {
      all = turned at.yielded _ _ _ left inv.all steps;
      counted = shorter _ _ _ _ _ inv.counted c.in-Some.ensures.steps.1 steps;
      done = subst (λ z. AreDone (at.yielded ++ left ∷ []) z c.push-in-loop-left.new.self.items) (sym c.in_ok-push.ensures.items)
          (subst (λ z. AreDone (at.yielded ++ left ∷ []) (at.clients.items ++ done.client ∷ []) z) (sym c.in_ok-push-2.ensures.items) (done_on at.yielded at.clients.items at.sheets.items left done c.in_ok-client.was inv.done));
    }

pub returns : goal.returns
returns g c = let at = c.loop-left in let inv = at.invariant in
    subst (λ z. AreDone z at.clients.items at.sheets.items) (over _ at.yielded _ _ inv.all inv.counted c.in-None.ensures.steps.0 ∙ c.into_iter-left-iterator.ensures.into_iter_gives.0) inv.done
