use Rattle.std.proofs.Common.{◌∙◌, ◌∷◌, [], map, string_bytes, ap, arith}
use Rattle.std.proofs.lemmas.List.{take_all, map-append}
use Rattle.cq_board.specs.Near.{miss_read}
use Rattle.cq_render.specs.Explain.{miss_words}
use Rattle.cq_render.proofs.Mapped.{mapped_more}
use Rattle.cq_render.proofs.explaining.each_miss.Goals as goal

pub loop-miss-preserved : goal.loop-miss-preserved
loop-miss-preserved g c =
    let words = c.loop-miss.words.items in
    let made = c.in_ok-near_words.field-0 in
    ap (map string_bytes) c.in_ok-push.ensures.items ∙ map-append string_bytes words (made ∷ [])
    ∙ mapped_more (miss_words c.args.board.now.pending) (miss_read (λ name. name.now)) (map string_bytes words) (string_bytes made) c.args.near.now c.loop-miss.miss-index c.miss-item.result
    c.loop-miss-test.true c.miss-item.is c.loop-miss.invariant c.in_ok-near_words.ensures

pub returns : goal.returns
returns g c =
    c.loop-miss.invariant ∙ ap (λ near. map (miss_words c.args.board.now.pending) (map (miss_read (λ name. name.now)) near)) (take_all c.loop-miss.miss-index c.args.near.now (omega arith))
