use Rattle.std.proofs.Common.{◌+◌, drop, ap, arith, get_or}
use Rattle.json.specs.Tree.{json_tokens}
use Rattle.cq_atom.specs.declared.edge.Edge.{Edge}
use Rattle.cq_render.specs.Json.{provider_json}
use Rattle.cq_render.proofs.Pieces.{got_at, nothing_left}
use Rattle.cq_render.proofs.Arrays.{listed, listed_at, put_array}
use Rattle.cq_render.proofs.Pages.{put_on}
use Rattle.cq_render.proofs.data.put_providers.Goals as goal

abbrev no_edge : Edge
no_edge = record { provider = 0; head = 0; waiter = 0; post = 0 }

pub loop-edge-preserved : goal.loop-edge-preserved
loop-edge-preserved g c =
    let i = c.loop-edge.edge-index in
    let edges = c.args.providers.now in
    let f = provider_json c.args.listing.now.board.now.pending in
    let x = get_or edges i no_edge in
    put_on c.loop-edge.sheet c.put_provider.new.sheet (json_tokens (f x)) _ (listed f (drop (i + 1) edges)) _
    (listed_at f edges i x (got_at edges i no_edge (omega arith))) c.loop-edge.invariant c.in_ok-put_provider.ensures

pub returns : goal.returns
returns g c =
    let f = provider_json c.args.listing.now.board.now.pending in
    put_array _ _ c.loop-edge.sheet c.end_array.new.self _ (listed f (drop c.loop-edge.edge-index c.args.providers.now)) c.end_array.result
    c.in_ok-begin_array.ensures c.loop-edge.invariant (ap (listed f) (nothing_left c.args.providers.now c.loop-edge.edge-index (omega arith))) c.end_array.ensures
