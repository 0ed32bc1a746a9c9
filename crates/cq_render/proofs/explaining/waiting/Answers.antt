use Rattle.std.proofs.Common.{◌∙◌, ◌∷◌, [], ℕ, List, map, filter, sym, ap, arith}
use Rattle.std.proofs.lemmas.List.{take_all, map-append}
use Rattle.cq_board.specs.Waiting.{is_waiting}
use Rattle.cq_render.proofs.Chosen.{taken_next, left_next}
use Rattle.cq_render.proofs.explaining.waiting.Goals.{then-is_waiting+in_ok-push, else-is_waiting}
use Rattle.cq_render.proofs.explaining.waiting.Goals as goal

pub loop-name-preserved : goal.loop-name-preserved
loop-name-preserved g c =
    let names = c.args.names.now in
    let i = c.loop-name.name-index in
    let waits = λ (name : List ℕ). is_waiting name c.args.board.now in
    let so_far = c.loop-name.waiting.items in
    let name = c.name-item.result in
    elim c.if-is_waiting.branch [
      | then-is_waiting+in_ok-push w ↦
          ap (λ waiting. map (λ name. name.now) waiting.items) w.waiting-is ∙ ap (map (λ name. name.now)) w.in_ok-push.ensures.items ∙ map-append (λ name. name.now) so_far (name ∷ [])
          ∙ taken_next waits (λ name. name.now) (map (λ name. name.now) so_far) names i name c.loop-name-test.true c.name-item.is c.loop-name.invariant (sym c.is_waiting.ensures ∙ w.if-is_waiting.true)
      | else-is_waiting w ↦
          ap (λ waiting. map (λ name. name.now) waiting.items) w.waiting-is
          ∙ left_next waits (λ name. name.now) (map (λ name. name.now) so_far) names i name c.loop-name-test.true c.name-item.is c.loop-name.invariant (sym c.is_waiting.ensures ∙ w.if-is_waiting.false)
    ]

pub returns : goal.returns
returns g c =
    c.loop-name.invariant ∙ ap (λ those. filter (λ name. is_waiting name c.args.board.now) (map (λ name. name.now) those)) (take_all c.loop-name.name-index c.args.names.now (omega arith))
