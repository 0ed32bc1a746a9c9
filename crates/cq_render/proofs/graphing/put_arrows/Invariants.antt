use Rattle.std.proofs.Common.{◌≡◌, ◌++◌, drop}
use Rattle.std.specs.Prelude.{string_bytes}
use Rattle.std.specs.List.{flat_map}
use Rattle.cq_render.specs.Graph.{arrow}
use Rattle.cq_render.proofs.graphing.put_arrows.Given as goal

abbrev pub invariant-loop-edge : goal.invariant-loop-edge
invariant-loop-edge g l = string_bytes l.page ++ flat_map (arrow l.crowded) (drop l.edge-index l.providers) ≡ string_bytes l.initial.page ++ flat_map (arrow l.crowded) l.providers
