use Rattle.std.proofs.Common.{◌∙◌, List, Bool, sym, ap}
use Rattle.cq_closure.specs.Closure.{is_set}
use Rattle.cq_closure.proofs.Reaching.{takes-one, reached-one}
use Rattle.cq_closure.proofs.take.Goals as goal

pub returns-in_ok-push-clause-takes : goal.returns-in_ok-push-clause-takes
returns-in_ok-push-clause-takes g c =
    takes-one c.args.reach.now.spare.items c.args.reach.now.left.items c.push.new.self.items c.args.node
    (ap (λ (flags : List Bool). is_set flags c.args.node) (sym c.deref.ensures.value) ∙ sym c.is_set.ensures ∙ c.if-is_set.true) c.in_ok-push.ensures.items

pub returns-in_ok-push-clause-only : goal.returns-in_ok-push-clause-only
returns-in_ok-push-clause-only g c edges may first is are =
    reached-one edges may first c.args.reach.now.spare.items c.args.reach.now.left.items c.push.new.self.items c.args.node
    (ap (λ (flags : List Bool). is_set flags c.args.node) (sym c.deref.ensures.value) ∙ sym c.is_set.ensures ∙ c.if-is_set.true) c.in_ok-push.ensures.items is are
