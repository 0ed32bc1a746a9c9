use Rattle.std.proofs.Common.{[], ◌∙◌}
use Rattle.cq_select.specs.Selection.{suppliers_of}
use Rattle.cq_select.proofs.Reading.{read-map, past-map}
use Rattle.cq_select.proofs.supply.suppliers_of.Goals as goal

pub returns-in-Some : goal.returns-in-Some
unfolding suppliers_of
returns-in-Some g c =
    c.deref-in-Some.ensures.value
    ∙ read-map (λ s. s.items) c.args.supply.now.suppliers.items c.deref.result.now c.args.atom c.in-Some.suppliers.now [] c.deref.ensures.value c.in-Some.ensures.lookup.3.0 c.in-Some.ensures.lookup.1

pub returns-in-None : goal.returns-in-None
unfolding suppliers_of
returns-in-None g c = past-map (λ s. s.items) c.args.supply.now.suppliers.items c.deref.result.now c.args.atom [] c.deref.ensures.value c.in-None.ensures.lookup.3
