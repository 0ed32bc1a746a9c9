use Rattle.std.proofs.Common.{◌++◌, ◌∙◌, ◌∷◌, [], map, take, get_or, sym, ap, arith}
use Rattle.std.proofs.lemmas.List.{take_all, take_more, map-append}
use Rattle.cq_render.specs.Explain.{name_of_number}
use Rattle.cq_render.proofs.explaining.names_of.Goals as goal

pub loop-number-preserved : goal.loop-number-preserved
loop-number-preserved g c =
    let f = name_of_number c.args.listing.now.board.now.pending in
    let numbers = c.args.numbers.now in
    let i = c.loop-number.number-index in
    ap (map (λ name. name.now)) c.in_ok-push.ensures.items ∙ map-append (λ name. name.now) c.loop-number.names.items (c.name_or_none.result ∷ [])
    ∙ ap (λ names. names ++ c.name_or_none.result.now ∷ []) c.loop-number.invariant ∙ ap (λ name. map f (take i numbers) ++ name ∷ []) c.name_or_none.ensures
    ∙ sym (ap (map f) (take_more numbers i 0 c.loop-number-test.true) ∙ map-append f (take i numbers) (get_or numbers i 0 ∷ []))

pub returns : goal.returns
returns g c =
    c.loop-number.invariant ∙ ap (map (name_of_number c.args.listing.now.board.now.pending)) (take_all c.loop-number.number-index c.args.numbers.now (omega arith))
