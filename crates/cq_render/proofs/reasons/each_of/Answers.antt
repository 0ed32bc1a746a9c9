use Rattle.std.proofs.Common.{◌++◌, ◌∙◌, ◌∷◌, [], map, take, sym, ap, arith}
use Rattle.std.proofs.lemmas.List.{take_all, take_more, map-append}
use Rattle.cq_render.proofs.reasons.each_of.Goals as goal

pub loop-name-preserved : goal.loop-name-preserved
loop-name-preserved g c =
    let names = c.args.names.now in
    let i = c.loop-name.name-index in
    let name = c.name-item.result in
    ap (map (λ name. name.now)) c.in_ok-push.ensures.items ∙ map-append (λ name. name.now) c.loop-name.each.items _
    ∙ ap (λ each. each ++ name ∷ []) c.loop-name.invariant ∙ ap (λ name. take i names ++ name ∷ []) c.name-item.is ∙ sym (take_more names i name c.loop-name-test.true)

pub returns : goal.returns
returns g c = c.loop-name.invariant ∙ take_all c.loop-name.name-index c.args.names.now (omega arith)
