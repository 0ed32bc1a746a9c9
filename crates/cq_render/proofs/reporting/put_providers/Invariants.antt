use Rattle.std.proofs.Common.{◌≡◌, ◌++◌, drop}
use Rattle.std.specs.Prelude.{string_bytes}
use Rattle.std.specs.List.{flat_map}
use Rattle.cq_render.specs.Report.{provider_line}
use Rattle.cq_render.proofs.reporting.put_providers.Given as goal

abbrev pub invariant-loop-edge : goal.invariant-loop-edge
invariant-loop-edge g l = string_bytes l.page ++ flat_map (provider_line l.listing.board.now.pending) (drop l.edge-index l.providers) ≡ string_bytes l.initial.page ++ flat_map (provider_line l.listing.board.now.pending) l.providers
