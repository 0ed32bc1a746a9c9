use Rattle.std.proofs.Common.{◌++◌, ◌∙◌, ap, subst, List, ℕ, arith}
use Rattle.std.specs.Prelude.{string_bytes}
use Rattle.std.proofs.lemmas.List.{take_all}
use Rattle.cq_match.specs.declared.falls.Fall.{Fall}
use Rattle.cq_render.specs.Explain.{ArePieces, IsReasonLine, is_told, IsIfTold}
use Rattle.cq_render.proofs.Explained.{pieces_step}
use Rattle.cq_render.proofs.explaining.put_lines.Goals as goal

pub loop-fall-preserved : goal.loop-fall-preserved
loop-fall-preserved g c empty =
    let pool = c.args.fallen.now.listing.now.board.now in
    pieces_step (λ fall. IsIfTold (is_told c.args.extent pool.pending fall) (IsReasonLine c.args.layout.front.now c.args.layout.separator.now c.args.layout.hints pool fall)) c.args.falls.now c.loop-fall.fall-index _ (string_bytes c.loop-fall.page) _ (string_bytes c.in_ok-line.line)
    c.loop-fall-test.true (c.loop-fall.invariant empty) c.in_ok-line.ensures (c.in_ok-push_str.ensures.bytes ∙ ap (λ (text : List ℕ). string_bytes c.loop-fall.page ++ text) c.as_str.ensures.value)

pub returns : goal.returns
returns g c empty =
    let pool = c.args.fallen.now.listing.now.board.now in
    subst (λ (falls : List Fall). ArePieces (λ fall. IsIfTold (is_told c.args.extent pool.pending fall) (IsReasonLine c.args.layout.front.now c.args.layout.separator.now c.args.layout.hints pool fall)) falls (string_bytes c.loop-fall.page))
    (take_all c.loop-fall.fall-index c.args.falls.now (omega arith)) (c.loop-fall.invariant empty)
