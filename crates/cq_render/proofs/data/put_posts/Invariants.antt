use Rattle.std.proofs.Common.{◌≡◌, ◌++◌, drop}
use Rattle.std.specs.List.{enumerate_from}
use Rattle.cq_match.specs.Graph.{edges_to}
use Rattle.cq_board.specs.Edges.{edges_of}
use Rattle.cq_render.specs.Json.{post_json}
use Rattle.cq_render.proofs.Arrays.{listed}
use Rattle.cq_render.proofs.data.put_posts.Given as goal

abbrev pub invariant-loop-place : goal.invariant-loop-place
invariant-loop-place g l =
    let pending = l.listing.board.now.pending in
    let number = l.shown.number in
    l.sheet ++ listed (λ post. post_json pending post.1 (edges_to number post.0 (edges_of pending))) (enumerate_from l.place (drop l.place l.shown.query.now.posts))
    ≡ l.initial.sheet ++ listed (λ post. post_json pending post.1 (edges_to number post.0 (edges_of pending))) (enumerate_from 0 l.shown.query.now.posts)
