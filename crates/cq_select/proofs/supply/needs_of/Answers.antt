use Rattle.std.proofs.Common.{[], ◌∙◌}
use Rattle.cq_select.specs.Selection.{needs_of}
use Rattle.cq_select.proofs.Reading.{read-map, past-map}
use Rattle.cq_select.proofs.supply.needs_of.Goals as goal

pub returns-in-Some : goal.returns-in-Some
unfolding needs_of
returns-in-Some g c =
    c.deref-in-Some.ensures.value
    ∙ read-map (λ m. m.needs.items) c.args.supply.now.members.items c.deref.result.now c.args.member c.in-Some.member.now [] c.deref.ensures.value c.in-Some.ensures.lookup.3.0 c.in-Some.ensures.lookup.1

pub returns-in-None : goal.returns-in-None
unfolding needs_of
returns-in-None g c = past-map (λ m. m.needs.items) c.args.supply.now.members.items c.deref.result.now c.args.member [] c.deref.ensures.value c.in-None.ensures.lookup.3
