use Rattle.std.proofs.Common.{◌++◌, ◌∙◌, map, ap, subst, List, ℕ, arith}
use Rattle.std.specs.Prelude.{string_bytes}
use Rattle.std.proofs.lemmas.List.{take_all}
use Rattle.cq_render.specs.Explain.{ArePieces, IsTold}
use Rattle.cq_render.proofs.Explained.{pieces_at}
use Rattle.cq_render.proofs.explaining.put_told.Goals as goal

pub loop-word-preserved : goal.loop-word-preserved
loop-word-preserved g c empty =
    pieces_at (IsTold c.args.extent c.args.fallen.now.listing.now.board.now) (λ word. word.now) c.args.words.now c.loop-word.word-index _ (string_bytes c.loop-word.page) _ (string_bytes c.in_ok-text.text)
    c.loop-word-test.true (c.loop-word.invariant empty) c.in_ok-text.ensures (c.in_ok-push_str.ensures.bytes ∙ ap (λ (text : List ℕ). string_bytes c.loop-word.page ++ text) c.as_str.ensures.value)

pub returns : goal.returns
returns g c empty =
    subst (λ words. ArePieces (IsTold c.args.extent c.args.fallen.now.listing.now.board.now) (map (λ word. word.now) words) (string_bytes c.loop-word.page)) (take_all c.loop-word.word-index c.args.words.now (omega arith))
    (c.loop-word.invariant empty)
