use Rattle.std.proofs.Common.{◌≡◌, map, take}
use Rattle.std.specs.Prelude.{string_bytes}
use Rattle.cq_board.specs.Near.{miss_read}
use Rattle.cq_render.specs.Explain.{miss_words}
use Rattle.cq_render.proofs.explaining.each_miss.Given as goal

-- the words so far are those of the heads so far
abbrev pub invariant-loop-miss : goal.invariant-loop-miss
invariant-loop-miss g l = map string_bytes l.words.items ≡ map (miss_words l.board.pending) (map (miss_read (λ name. name.now)) (take l.miss-index l.near))
