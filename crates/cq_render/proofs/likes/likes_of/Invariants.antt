use Rattle.std.proofs.Common.{◌≡◌, ◌++◌, [], drop}
use Rattle.std.specs.Prelude.{◌==◌, if◌then◌else◌}
use Rattle.std.specs.List.{flat_map, enumerate_from}
use Rattle.cq_render.specs.Hints.{like_if, likes_of}
use Rattle.cq_render.proofs.likes.likes_of.Given as goal

-- those so far and those to come are all
abbrev pub invariant-loop-number : goal.invariant-loop-number
invariant-loop-number g l =
    l.likes.items
    ++ flat_map (λ p. if p.0 == l.waiter then [] else flat_map (like_if l.wanted p.0) (enumerate_from 0 p.1.query.heads)) (enumerate_from l.number (drop l.number l.listing.board.now.pending))
    ≡ likes_of l.wanted l.waiter l.listing.board.now.pending
