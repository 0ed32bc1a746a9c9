use Rattle.std.proofs.Common.{◌≡◌, ◌++◌, map, drop}
use Rattle.std.specs.Prelude.{string_bytes}
use Rattle.std.specs.List.{flat_map}
use Rattle.cq_board.specs.Near.{miss_read}
use Rattle.cq_render.specs.Report.{line}
use Rattle.cq_render.specs.Explain.{miss_words}
use Rattle.cq_render.proofs.explaining.put_nears.Given as goal

abbrev pub invariant-loop-miss : goal.invariant-loop-miss
invariant-loop-miss g l =
    string_bytes l.page ++ flat_map (λ near. line (miss_words l.board.pending near)) (map (miss_read (λ name. name.now)) (drop l.miss-index l.near))
    ≡ string_bytes l.initial.page ++ flat_map (λ near. line (miss_words l.board.pending near)) (map (miss_read (λ name. name.now)) l.near)
