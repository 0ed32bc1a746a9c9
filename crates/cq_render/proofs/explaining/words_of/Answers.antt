use Rattle.std.proofs.Common.{◌∙◌, ◌∷◌, [], map, ap, arith}
use Rattle.std.proofs.lemmas.List.{take_all, map-append}
use Rattle.cq_render.proofs.Flagged.{map_more}
use Rattle.cq_render.proofs.explaining.words_of.Goals as goal

pub loop-name-preserved : goal.loop-name-preserved
loop-name-preserved g c =
    let words = c.loop-name.words.items in
    ap (map (λ word. word.now)) c.in_ok-push.ensures.items ∙ map-append (λ word. word.now) words (c.as_str.result ∷ [])
    ∙ map_more (λ name. name.now) (map (λ word. word.now) words) c.as_str.result.now c.args.names.now c.loop-name.name-index c.name-item.result (omega arith) c.name-item.is c.loop-name.invariant c.as_str.ensures.bytes

pub returns : goal.returns
returns g c =
    c.loop-name.invariant ∙ ap (map (λ name. name.now)) (take_all c.loop-name.name-index c.args.names.now (omega arith))
