use Rattle.std.proofs.Common.{◌≡◌, ◌++◌, drop}
use Rattle.cq_render.proofs.CallerLemmas.{listed}
use Rattle.cq_render.specs.Data.{named_json}
use Rattle.cq_ask.proofs.data.put_queries.Given as goal

abbrev pub invariant-loop-name : goal.invariant-loop-name
invariant-loop-name g l = l.sheet ++ listed (named_json l.board) (drop l.name-index l.names) ≡ l.initial.sheet ++ listed (named_json l.board) l.names
