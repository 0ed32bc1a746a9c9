use Rattle.std.proofs.Common.{take}
use Rattle.cq_render.specs.Data.{IsNearOf}
use Rattle.cq_render.specs.Steps.Telling.{AreListed}
use Rattle.cq_ask.proofs.data.put_nears.Given as goal

-- the sheet has what is told of the names so far
abbrev pub invariant-loop-name : goal.invariant-loop-name
invariant-loop-name g l = AreListed (IsNearOf l.board l.post) (take l.name-index l.names) l.initial.sheet l.sheet
