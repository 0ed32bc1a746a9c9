use Rattle.std.proofs.Common.{◌≡◌, ◌++◌, drop}
use Rattle.std.specs.List.{flat_map, enumerate_from}
use Rattle.cq_render.specs.Hints.{like_if}
use Rattle.cq_render.proofs.likes.put_likes.Given as goal

-- those so far and those to come are all
abbrev pub invariant-loop-place : goal.invariant-loop-place
invariant-loop-place g l =
    l.likes.items ++ flat_map (like_if l.wanted l.number) (enumerate_from l.place (drop l.place l.heads)) ≡ l.initial.likes.items ++ flat_map (like_if l.wanted l.number) (enumerate_from 0 l.heads)
