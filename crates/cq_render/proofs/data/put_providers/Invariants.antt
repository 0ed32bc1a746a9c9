use Rattle.std.proofs.Common.{◌≡◌, ◌++◌, drop}
use Rattle.cq_render.proofs.Arrays.{listed}
use Rattle.cq_render.specs.Json.{provider_json}
use Rattle.cq_render.proofs.data.put_providers.Given as goal

abbrev pub invariant-loop-edge : goal.invariant-loop-edge
invariant-loop-edge g l = l.sheet ++ listed (provider_json l.listing.board.now.pending) (drop l.edge-index l.providers) ≡ l.initial.sheet ++ listed (provider_json l.listing.board.now.pending) l.providers
