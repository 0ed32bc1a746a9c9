use Rattle.std.proofs.Common.{◌≡◌, ◌++◌, drop}
use Rattle.std.specs.Prelude.{string_bytes}
use Rattle.std.specs.List.{flat_map, enumerate_from}
use Rattle.cq_board.specs.Edges.{edges_of}
use Rattle.cq_match.specs.Graph.{edges_to}
use Rattle.cq_render.specs.Graph.{supply}
use Rattle.cq_render.proofs.graphing.put_supplies.Given as goal

abbrev pub invariant-loop-post : goal.invariant-loop-post
invariant-loop-post g l =
    let edges = edges_of l.listing.board.now.pending in
    string_bytes l.page ++ flat_map (λ post. supply l.waiter post (edges_to l.waiter post.0 edges)) (enumerate_from l.post (drop l.post l.shown.query.now.posts))
    ≡ string_bytes l.initial.page ++ flat_map (λ post. supply l.waiter post (edges_to l.waiter post.0 edges)) (enumerate_from 0 l.shown.query.now.posts)
