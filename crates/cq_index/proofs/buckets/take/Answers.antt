use Rattle.cq_index.specs.Steps.Keys.{asked_key}
use Rattle.cq_index.proofs.Changes.{taken_away}
use Rattle.cq_index.proofs.buckets.take.Goals as goal

pub returns-then-take_place : goal.returns-then-take_place
returns-then-take_place g c =
    taken_away c.args.buckets.now.entries c.take_place.new.buckets.entries c.swap_remove-empty.new.self.entries (asked_key c.args.asked) c.args.place
    c.take_place.ensures.rest c.swap_remove-empty.ensures.updates.0 (c.take_place.ensures.none c.if-take_place.true)
