use Rattle.std.proofs.Common.{◌++◌, ◌∙◌, ap, List, ℕ, subst, arith}
use Rattle.std.specs.Prelude.{string_bytes}
use Rattle.std.proofs.lemmas.List.{take_all}
use Rattle.cq_render.specs.Explain.{ArePieces, IsNearTold}
use Rattle.cq_render.proofs.CallerLemmas.{pieces_step}
use Rattle.cq_ask.proofs.answering.put_nears.Goals as goal

pub loop-name-preserved : goal.loop-name-preserved
loop-name-preserved g c empty =
    let names = c.args.names.now in
    let i = c.loop-name.name-index in
    let name = c.name-item.result in
    pieces_step (λ name. IsNearTold c.args.board.now.pending name c.args.post) names i name (string_bytes c.loop-name.page) _ (string_bytes c.in_ok-text.text)
    c.loop-name-test.true (c.loop-name.invariant empty) (subst (λ (n : List ℕ). IsNearTold c.args.board.now.pending n c.args.post (string_bytes c.in_ok-text.text)) c.name-item.is c.in_ok-text.ensures)
    (c.in_ok-push_str.ensures.bytes ∙ ap (λ (text : List ℕ). string_bytes c.loop-name.page ++ text) c.as_str.ensures.value)

pub returns : goal.returns
returns g c empty =
    let names = c.args.names.now in
    subst (λ (ns : List (List ℕ)). ArePieces (λ name. IsNearTold c.args.board.now.pending name c.args.post) ns (string_bytes c.loop-name.page)) (take_all c.loop-name.name-index names (omega arith)) (c.loop-name.invariant empty)
