use Rattle.cq_atom.specs.Query.{first_unbound}
use Rattle.cq_atom.proofs.Onward.{unbound-here, unbound-later, unbound-end}
use Rattle.cq_atom.proofs.query.unbound.Goals as goal

pub loop-place-preserved : goal.loop-place-preserved
loop-place-preserved g c =
    let body = c.args.body.now in
    let atoms = c.args.atoms.now in
    unbound-later c.args.part body c.loop-place.place atoms (first_unbound c.args.part body 0 atoms) c.index-atoms-place.result c.unbound_place.result
    c.loop-place-test.true c.index-atoms-place.is c.unbound_place.ensures c.in_default.is c.loop-place.invariant

pub returns-in-Some : goal.returns-in-Some
returns-in-Some g c =
    let body = c.args.body.now in
    let atoms = c.args.atoms.now in
    unbound-here c.args.part body c.loop-place.place atoms (first_unbound c.args.part body 0 atoms) c.index-atoms-place.result c.unbound_place.result c.in-Some.term
    c.loop-place-test.true c.index-atoms-place.is c.unbound_place.ensures c.in-Some.is c.loop-place.invariant

pub returns : goal.returns
returns g c =
    let body = c.args.body.now in
    let atoms = c.args.atoms.now in
    unbound-end c.args.part body c.loop-place.place atoms (first_unbound c.args.part body 0 atoms) c.loop-place-test.false c.loop-place.invariant
