use Rattle.std.proofs.Common.{◌≡◌, ◌++◌, drop}
use Rattle.cq_render.proofs.CallerLemmas.{listed}
use Rattle.cq_render.specs.Data.{standing_json}
use Rattle.cq_ask.proofs.data.put_standings.Given as goal

abbrev pub invariant-loop-name : goal.invariant-loop-name
invariant-loop-name g l = l.sheet ++ listed (standing_json l.board) (drop l.name-index l.names) ≡ l.initial.sheet ++ listed (standing_json l.board) l.names
