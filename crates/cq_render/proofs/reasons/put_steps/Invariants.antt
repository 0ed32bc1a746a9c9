use Rattle.std.proofs.Common.{take}
use Rattle.cq_render.specs.Data.{IsStepJson}
use Rattle.cq_render.specs.Steps.Telling.{AreListed}
use Rattle.cq_render.proofs.reasons.put_steps.Given as goal

-- the sheet has the steps so far
abbrev pub invariant-loop-fall : goal.invariant-loop-fall
invariant-loop-fall g l = AreListed (IsStepJson l.fallen.listing.now.board.now.pending) (take l.fall-index l.part) l.initial.sheet l.sheet
