use Rattle.std.proofs.Common.{map, take}
use Rattle.cq_render.specs.Data.{IsWhyJson}
use Rattle.cq_render.specs.Steps.Telling.{AreListed}
use Rattle.cq_render.proofs.reasons.put_whys.Given as goal

-- the sheet has what is told of the names so far
abbrev pub invariant-loop-name : goal.invariant-loop-name
invariant-loop-name g l = AreListed (IsWhyJson l.fallen.listing.now.board.now) (map (λ name. name.now) (take l.name-index l.names)) l.initial.sheet l.sheet
