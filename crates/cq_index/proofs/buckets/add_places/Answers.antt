use Rattle.std.proofs.Common.{ap, sym, ◌∙◌}
use Rattle.cq_index.specs.Steps.Keys.{asked_key}
use Rattle.cq_index.specs.Steps.Buckets.{has_place, holds, is_in}
use Rattle.cq_index.proofs.Joined.{adds_one, adds_none}
use Rattle.cq_index.proofs.buckets.add_places.Goals as goal

pub returns-in_ok-push-in-Some-One : goal.returns-in_ok-push-in-Some-One
returns-in_ok-push-in-Some-One g c =
    adds_one c.args.places.now.items c.push.new.self.items c.in-Some-One.place (holds c.args.buckets.now.entries (asked_key c.args.asked)) c.in_ok-push-in-Some-One.ensures.items
    (λ p. sym (ap (λ b. is_in b p) c.in-Some-One.field-0-is) ∙ ap (λ o. has_place o p) c.in-Some-One.ensures.value)

pub returns-in-None : goal.returns-in-None
returns-in-None g c = adds_none c.args.places.now.items (holds c.args.buckets.now.entries (asked_key c.args.asked)) (λ p. ap (λ o. has_place o p) c.in-None.ensures.value)
