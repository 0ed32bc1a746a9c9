use Rattle.std.proofs.Common.{List, subst, arith}
use Rattle.std.proofs.lemmas.List.{take_all}
use Rattle.cq_match.specs.declared.falls.Fall.{Fall}
use Rattle.cq_render.specs.Data.{IsStepJson}
use Rattle.cq_render.specs.Steps.Telling.{AreListed}
use Rattle.cq_render.proofs.Telling.{listed_none, listed_step, listed_closed}
use Rattle.cq_render.proofs.reasons.put_steps.Goals as goal

pub loop-fall-init : goal.loop-fall-init
loop-fall-init g c = listed_none (IsStepJson c.args.fallen.now.listing.now.board.now.pending) _

pub loop-fall-preserved : goal.loop-fall-preserved
loop-fall-preserved g c =
    listed_step (IsStepJson c.args.fallen.now.listing.now.board.now.pending) c.args.part.now c.loop-fall.fall-index _ _ c.loop-fall.sheet c.put_step.new.sheet c.loop-fall-test.true c.loop-fall.invariant c.in_ok-put_step.ensures

pub returns : goal.returns
returns g c =
    let pending = c.args.fallen.now.listing.now.board.now.pending in
    let part = c.args.part.now in
    listed_closed (IsStepJson pending) part c.args.sheet.now c.begin_array.new.self c.loop-fall.sheet c.end_array.new.self c.end_array.result c.in_ok-begin_array.ensures
    (subst (λ (falls : List Fall). AreListed (IsStepJson pending) falls c.begin_array.new.self c.loop-fall.sheet) (take_all c.loop-fall.fall-index part (omega arith)) c.loop-fall.invariant) c.end_array.ensures
