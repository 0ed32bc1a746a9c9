use Rattle.std.proofs.Common.{◌≡◌, ◌++◌, take, drop}
use Rattle.std.specs.Prelude.{string_bytes}
use Rattle.std.specs.List.{All, flat_map}
use Rattle.cq_text.specs.Sound.{IsSoundCommand}
use Rattle.cq_render.specs.Dump.{command_line}
use Rattle.cq_render.specs.Steps.Dumping.{insert_command}
use Rattle.cq_render.proofs.dumping.put_rows.Given as goal

abbrev pub invariant-loop-row : goal.invariant-loop-row
invariant-loop-row g l = record {
  sound : All (λ row. IsSoundCommand (insert_command row.now)) (take l.row-index l.rows);
  printed : string_bytes l.script ++ flat_map (λ row. command_line (insert_command row.now)) (drop l.row-index l.rows) ≡ string_bytes l.initial.script ++ flat_map (λ row. command_line (insert_command row.now)) l.rows;
}
