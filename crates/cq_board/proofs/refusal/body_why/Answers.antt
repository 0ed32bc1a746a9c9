use Rattle.std.proofs.Common.{refl, ◌∙◌, arith}
use Rattle.cq_board.proofs.Refusals.{arity_as, body_next, body_found, body_end}
use Rattle.cq_board.proofs.refusal.body_why.Goals as goal

pub loop-place-init : goal.loop-place-init
loop-place-init g c = refl

pub loop-place-preserved : goal.loop-place-preserved
loop-place-preserved g c =
    body_next c.args.catalog.now c.args.atoms.now c.loop-place.place c.loop-place.invariant c.index-atoms-place.result (omega arith) c.index-atoms-place.is
    (arity_as c.args.catalog.now c.relation.result.now c.terms.result.now c.index-atoms-place.result c.loop-place.place c.arity_why.result c.relation.ensures.value c.terms.ensures.value c.arity_why.ensures ∙ c.in_default.is)

pub returns-in-Some : goal.returns-in-Some
returns-in-Some g c =
    body_found c.args.catalog.now c.args.atoms.now c.loop-place.place c.loop-place.invariant c.index-atoms-place.result c.in-Some.why (omega arith) c.index-atoms-place.is
    (arity_as c.args.catalog.now c.relation.result.now c.terms.result.now c.index-atoms-place.result c.loop-place.place c.arity_why.result c.relation.ensures.value c.terms.ensures.value c.arity_why.ensures ∙ c.in-Some.is)

pub returns : goal.returns
returns g c = body_end c.args.catalog.now c.args.atoms.now c.loop-place.place c.loop-place.invariant (omega arith)
