use Rattle.std.proofs.Common.{map, ap, refl, sym, ◌∙◌}
use Rattle.std.specs.Prelude.{filter}
use Rattle.std.proofs.lemmas.List.{take_all}
use Rattle.cq_match.specs.Matched.{is_matched}
use Rattle.cq_board.proofs.Picked.{read-picked, read-passed}
use Rattle.cq_board.proofs.views.matched_of.Goals.{then-is_matched+in_ok-push, else-is_matched}
use Rattle.cq_board.proofs.views.matched_of.Goals as goal

pub loop-seat-preserved : goal.loop-seat-preserved
loop-seat-preserved g c =
    let matcher = c.args.matcher.now in
    let seats = c.args.seats.now in
    let i = c.loop-seat.seat-index in
    let names = c.loop-seat.names.items in
    let new = c.if-is_matched.names.items in
    elim c.if-is_matched.branch [
      | then-is_matched+in_ok-push w ↦
          read-picked (λ name. name.now) (λ s. s.now.name) names new seats i c.seat-item.result c.loop-seat-test.true c.seat-item.is (λ s. is_matched matcher.nodes matcher.edges s.now.place) c.loop-seat.invariant _
          (sym c.is_matched.ensures.exact ∙ w.if-is_matched.true) (ap (λ names. names.items) w.names-is ∙ w.in_ok-push.ensures.items) refl
      | else-is_matched w ↦
          read-passed (λ name. name.now) (λ s. s.now.name) names new seats i c.seat-item.result c.loop-seat-test.true c.seat-item.is (λ s. is_matched matcher.nodes matcher.edges s.now.place) c.loop-seat.invariant
          (sym c.is_matched.ensures.exact ∙ w.if-is_matched.false) (ap (λ names. names.items) w.names-is)
    ]

pub returns : goal.returns
returns g c =
    let matcher = c.args.matcher.now in
    c.loop-seat.invariant ∙ ap (λ seats. map (λ s. s.now.name) (filter (λ s. is_matched matcher.nodes matcher.edges s.now.place) seats)) (take_all c.loop-seat.seat-index c.args.seats.now c.loop-seat-test.false)
