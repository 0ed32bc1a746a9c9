use Rattle.std.proofs.Common.{◌≡◌, ◌++◌, drop}
use Rattle.std.specs.Prelude.{string_bytes}
use Rattle.std.specs.List.{flat_map}
use Rattle.cq_render.specs.Dump.{command_line, relation_command}
use Rattle.cq_render.proofs.dumping.put_relations.Given as goal

abbrev pub invariant-loop-place : goal.invariant-loop-place
invariant-loop-place g l =
    string_bytes l.script ++ flat_map (λ declared. command_line (relation_command declared)) (drop l.place l.catalog) ≡ string_bytes l.initial.script ++ flat_map (λ declared. command_line (relation_command declared)) l.catalog
