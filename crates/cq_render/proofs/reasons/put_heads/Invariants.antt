use Rattle.std.proofs.Common.{◌≡◌, ◌++◌, map, drop}
use Rattle.cq_board.specs.Near.{miss_read}
use Rattle.cq_render.specs.Data.{near_json}
use Rattle.cq_render.proofs.Arrays.{listed}
use Rattle.cq_render.proofs.reasons.put_heads.Given as goal

abbrev pub invariant-loop-miss : goal.invariant-loop-miss
invariant-loop-miss g l =
    l.sheet ++ listed (near_json l.board.pending) (map (miss_read (λ name. name.now)) (drop l.miss-index l.near))
    ≡ l.initial.sheet ++ listed (near_json l.board.pending) (map (miss_read (λ name. name.now)) l.near)
