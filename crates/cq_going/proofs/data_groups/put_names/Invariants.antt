use Rattle.std.proofs.Common.{◌≡◌, ◌++◌, drop}
use Rattle.json.specs.Json.{string}
use Rattle.cq_render.proofs.CallerLemmas.{listed}
use Rattle.cq_going.proofs.data_groups.put_names.Given as goal

-- the tokens, and the names that are left
abbrev pub invariant-loop-name : goal.invariant-loop-name
invariant-loop-name g l = l.sheet ++ listed string (drop l.name-index l.names) ≡ l.initial.sheet ++ listed string l.names
