use Rattle.std.proofs.Common.{◌≡◌, ◌∙◌, map, length, sym, ap}
use Rattle.std.proofs.lemmas.List.{length-map}
use Rattle.cq_board.specs.Pool.{name_of}
use Rattle.cq_board.specs.Edges.{edges_of}
use Rattle.cq_board.proofs.CallerLemmas.{edges-grouped}
use Rattle.cq_render.proofs.Flagged.{all_true, kept_read, named_all}
use Rattle.cq_render.proofs.keeping.kept_with.Goals as goal

pub closure-requires : goal.closure-requires
closure-requires g c = rw (c.deref-2.ensures.value, c.in_ok-edges.ensures) (edges-grouped c.args.board.now.pending)

pub returns : goal.returns
returns g c =
    let pool = c.args.board.now in
    let words = c.args.words.now in
    let names = c.in_ok-names.names.items in
    let named = ap (map (λ name. name.now)) c.deref.ensures.value ∙ c.in_ok-names.ensures in
    let many : c.len.result ≡ length pool.pending = c.len.ensures ∙ sym c.deref.ensures.len ∙ ap length c.deref.ensures.value ∙ sym (length-map names (λ name. name.now)) ∙ ap length c.in_ok-names.ensures ∙ length-map pool.pending name_of in
    kept_read c.closure.result (λ flags. flags.items) c.deref-2.result.now (edges_of pool.pending) c.deref-3.result.now _ c.deref-4.result.now _
    (c.deref-2.ensures.value ∙ c.in_ok-edges.ensures)
    (c.deref-3.ensures.value ∙ c.in_ok-all.ensures.items_if_clones_equal (λ y e. e) ∙ all_true c.len.result pool.pending many)
    (c.deref-4.ensures.value ∙ c.in_ok-first.ensures ∙ named_all (λ name. name.now) (λ word. word.now) words c.deref.result.now pool.pending named)
    c.closure.ensures.reached
