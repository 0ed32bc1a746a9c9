use Rattle.cq_select.specs.Selection.{owner_of}
use Rattle.cq_select.proofs.Reading.{read-map}
use Rattle.cq_select.proofs.supply.owner_of.Goals as goal

pub returns-in-Some-clause-known : goal.returns-in-Some-clause-known
unfolding owner_of
returns-in-Some-clause-known g c = read-map (λ m. m.owner) c.args.supply.now.members.items c.deref.result.now c.args.member c.in-Some.member.now 0 c.deref.ensures.value c.in-Some.ensures.lookup.3.0 c.in-Some.ensures.lookup.1
