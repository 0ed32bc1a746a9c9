use Rattle.std.proofs.Common.{◌≡◌, ◌++◌, drop}
use Rattle.cq_render.proofs.Arrays.{listed}
use Rattle.cq_render.specs.Json.{relation_json}
use Rattle.cq_render.proofs.data.put_relations.Given as goal

abbrev pub invariant-loop-place : goal.invariant-loop-place
invariant-loop-place g l = l.sheet ++ listed (relation_json l.tables) (drop l.place l.tables.catalog) ≡ l.initial.sheet ++ listed (relation_json l.tables) l.tables.catalog
