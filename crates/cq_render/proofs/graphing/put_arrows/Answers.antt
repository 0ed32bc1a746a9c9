use Rattle.std.proofs.Common.{◌+◌, drop, ap, arith, get_or}
use Rattle.std.specs.Prelude.{string_bytes}
use Rattle.std.specs.List.{flat_map}
use Rattle.cq_atom.specs.declared.edge.Edge.{Edge}
use Rattle.cq_render.specs.Graph.{arrow}
use Rattle.cq_render.proofs.Pieces.{pieces_at, got_at, nothing_left}
use Rattle.cq_render.proofs.Pages.{put_on, put_end}
use Rattle.cq_render.proofs.graphing.put_arrows.Goals as goal

abbrev no_edge : Edge
no_edge = record { provider = 0; head = 0; waiter = 0; post = 0 }

pub loop-edge-preserved : goal.loop-edge-preserved
loop-edge-preserved g c =
    let i = c.loop-edge.edge-index in
    let edges = c.args.providers.now in
    let f = arrow c.args.crowded in
    let x = f (get_or edges i no_edge) in
    put_on (string_bytes c.loop-edge.page) (string_bytes c.put.new.page) x _ (flat_map f (drop (i + 1) edges)) _
    (pieces_at f edges i _ (got_at edges i no_edge (omega arith))) c.loop-edge.invariant (c.in_ok-put.ensures x c.arrow.ensures)

pub returns : goal.returns
returns g c =
    let f = arrow c.args.crowded in
    put_end _ (flat_map f (drop c.loop-edge.edge-index c.args.providers.now)) _ (ap (flat_map f) (nothing_left c.args.providers.now c.loop-edge.edge-index (omega arith))) c.loop-edge.invariant
