use Rattle.std.proofs.Common.{◌++◌, List, Some, map, ap}
use Rattle.cq_atom.specs.Value.{ValueContent}
use Rattle.cq_choose.specs.declared.offers.Offer.{Offer}
use Rattle.cq_choose.specs.Steps.Offers.{offer_of, offers_by}
use Rattle.cq_choose.proofs.Onward.{grounded-on, grounded-end}
use Rattle.cq_choose.proofs.offers.add_groundings.Goals as goal

pub loop-values-preserved : goal.loop-values-preserved
loop-values-preserved g c =
    let place = c.args.place in
    let name = c.args.name.now in
    let query = c.args.query.now in
    let offer : Offer g.row.A.Denot = record { name = c.args.name; place = place; query = c.args.query; values = c.deref.result } in
    grounded-on (λ values. values.items) place name query (map offer_of c.args.offers.now.items ++ offers_by place name (Some query) (Some c.args.groundings.now)) c.loop-values.values-iterator
    c.push.new.self.items c.loop-values.offers.items offer c.next.new.self c.in-Some.values.now c.in-Some.ensures.steps c.in_ok-push.ensures.items
    (ap (λ (values : List ValueContent). record { name = name; place = place; query = query; values = values }) c.deref.ensures.value) c.loop-values.invariant

pub returns : goal.returns
returns g c =
    let place = c.args.place in
    let name = c.args.name.now in
    let query = c.args.query.now in
    grounded-end (λ values. values.items) place name query (map offer_of c.args.offers.now.items ++ offers_by place name (Some query) (Some c.args.groundings.now)) c.loop-values.values-iterator
    (map offer_of c.loop-values.offers.items) c.in-None.ensures.steps.0 c.loop-values.invariant
