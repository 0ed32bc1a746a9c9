use Rattle.std.proofs.Common.{map, drop, bytes_eq}
use Rattle.std.specs.Prelude.{◌↔◌}
use Rattle.std.specs.List.{IsDistinct}
use Rattle.cq_board.specs.Choice.{chosen_name}
use Rattle.cq_board.proofs.choice.names_differ.Given as goal

-- all names differ exactly where those from the place on do
abbrev pub invariant-loop-place : goal.invariant-loop-place
invariant-loop-place g l = IsDistinct bytes_eq (map chosen_name (drop l.place l.choices)) ↔ IsDistinct bytes_eq (map chosen_name l.choices)
