use Rattle.std.proofs.Common.{◌≡◌, ◌++◌, drop}
use Rattle.std.specs.Prelude.{string_bytes}
use Rattle.std.specs.List.{flat_map, enumerate_from}
use Rattle.cq_render.specs.Report.{post_lines}
use Rattle.cq_render.proofs.reporting.put_posts.Given as goal

abbrev pub invariant-loop-post : goal.invariant-loop-post
invariant-loop-post g l =
    string_bytes l.page ++ flat_map (λ post. post_lines l.listing.board.now.pending l.shown.number post.0) (enumerate_from l.post (drop l.post l.shown.query.now.posts))
    ≡ string_bytes l.initial.page ++ flat_map (λ post. post_lines l.listing.board.now.pending l.shown.number post.0) (enumerate_from 0 l.shown.query.now.posts)
