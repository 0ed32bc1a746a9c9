use Rattle.std.proofs.Common.{◌∙◌, ◌∷◌, [], map, string_bytes, ap, arith}
use Rattle.std.proofs.lemmas.List.{take_all, map-append}
use Rattle.cq_text.specs.Print.{printed_value}
use Rattle.cq_render.proofs.Mapped.{mapped_more}
use Rattle.cq_render.proofs.lacking.each_value.Goals as goal

pub loop-value-preserved : goal.loop-value-preserved
loop-value-preserved g c =
    let words = c.loop-value.words.items in
    let made = c.in_ok-value_words.field-0 in
    ap (map string_bytes) c.in_ok-push.ensures.items ∙ map-append string_bytes words (made ∷ [])
    ∙ mapped_more printed_value (λ value. value.now) (map string_bytes words) (string_bytes made) c.args.values.now c.loop-value.value-index c.value-item.result c.loop-value-test.true c.value-item.is c.loop-value.invariant c.in_ok-value_words.ensures

pub returns : goal.returns
returns g c =
    c.loop-value.invariant ∙ ap (λ values. map printed_value (map (λ value. value.now) values)) (take_all c.loop-value.value-index c.args.values.now (omega arith))
