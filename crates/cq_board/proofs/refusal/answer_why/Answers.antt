use Rattle.std.proofs.Common.{refl, ◌∙◌, arith}
use Rattle.cq_board.proofs.Refusals.{declared_as, answer_next, answer_found, answer_end}
use Rattle.cq_board.proofs.refusal.answer_why.Goals as goal

pub loop-place-init : goal.loop-place-init
loop-place-init g c = refl

pub loop-place-preserved : goal.loop-place-preserved
loop-place-preserved g c =
    answer_next c.args.catalog.now c.args.part c.args.atoms.now c.loop-place.place c.loop-place.invariant c.index-atoms-place.result (omega arith) c.index-atoms-place.is
    (declared_as c.args.catalog.now c.relation.result.now c.index-atoms-place.result.relation c.arity_of.result c.is_some.result c.relation.ensures.value c.arity_of.ensures c.is_some.ensures ∙ c.if-is_some.false)

pub returns-then-is_some : goal.returns-then-is_some
returns-then-is_some g c =
    answer_found c.args.catalog.now c.args.part c.args.atoms.now c.loop-place.place c.loop-place.invariant c.index-atoms-place.result (omega arith) c.index-atoms-place.is
    (declared_as c.args.catalog.now c.relation.result.now c.index-atoms-place.result.relation c.arity_of.result c.is_some.result c.relation.ensures.value c.arity_of.ensures c.is_some.ensures ∙ c.if-is_some.true)

pub returns : goal.returns
returns g c = answer_end c.args.catalog.now c.args.part c.args.atoms.now c.loop-place.place c.loop-place.invariant (omega arith)
