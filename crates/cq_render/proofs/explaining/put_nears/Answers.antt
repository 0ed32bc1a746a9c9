use Rattle.std.proofs.Common.{◌+◌, ℕ, List, map, drop, ap, arith}
use Rattle.std.specs.Prelude.{string_bytes}
use Rattle.std.specs.List.{flat_map}
use Rattle.cq_board.specs.declared.near.NearMiss.{NearMiss}
use Rattle.cq_board.specs.Near.{miss_read}
use Rattle.cq_render.specs.Report.{line}
use Rattle.cq_render.specs.Explain.{miss_words}
use Rattle.cq_render.proofs.Pieces.{mapped_at, read_at, nothing_left}
use Rattle.cq_render.proofs.Pages.{put_on, put_end}
use Rattle.cq_render.proofs.explaining.put_nears.Goals as goal

pub loop-miss-preserved : goal.loop-miss-preserved
loop-miss-preserved g c =
    let items = c.args.near.now in
    let i = c.loop-miss.miss-index in
    let f = λ (near : NearMiss (List ℕ)). line (miss_words c.args.board.now.pending near) in
    let miss = c.miss-item.result in
    let got = read_at items i miss c.loop-miss-test.true c.miss-item.is in
    put_on (string_bytes c.loop-miss.page) (string_bytes c.put_near.new.page) (f (miss_read (λ name. name.now) miss)) _ (flat_map f (map (miss_read (λ name. name.now)) (drop (i + 1) items))) _
    (mapped_at f (miss_read (λ name. name.now)) items i miss got) c.loop-miss.invariant c.in_ok-put_near.ensures

pub returns : goal.returns
returns g c =
    let f = λ (near : NearMiss (List ℕ)). line (miss_words c.args.board.now.pending near) in
    put_end _ (flat_map f (map (miss_read (λ name. name.now)) (drop c.loop-miss.miss-index c.args.near.now))) _ (ap (λ left. flat_map f (map (miss_read (λ name. name.now)) left)) (nothing_left c.args.near.now c.loop-miss.miss-index (omega arith))) c.loop-miss.invariant
