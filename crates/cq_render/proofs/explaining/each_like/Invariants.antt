use Rattle.std.proofs.Common.{◌≡◌, map, take}
use Rattle.std.specs.Prelude.{string_bytes}
use Rattle.cq_render.specs.Explain.{like_words}
use Rattle.cq_render.proofs.explaining.each_like.Given as goal

-- the words so far are those of the heads so far
abbrev pub invariant-loop-like : goal.invariant-loop-like
invariant-loop-like g l = map string_bytes l.words.items ≡ map (like_words l.listing.board.now.pending) (take l.like-index l.likes)
