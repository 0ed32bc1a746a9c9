use Rattle.std.proofs.Common.{◌∙◌, map, sym, ap, subst}
use Rattle.std.specs.Prelude.{not}
use Rattle.std.specs.List.{list_any}
use Rattle.std.specs.List.Sorted.{IsNonDecreasingBy}
use Rattle.std.specs.Str.{bytes_eq}
use Rattle.std.proofs.lemmas.Result.{IfOk-weaker}
use Rattle.cq_atom.specs.declared.edge.Edge.{Edge}
use Rattle.cq_board.proofs.CallerLemmas.{edges-grouped}
use Rattle.cq_choose.proofs.Concerned.{exact-read}
use Rattle.cq_choose.proofs.reach.left_out.Goals as goal

pub closure-requires : goal.closure-requires
closure-requires g c = subst (IsNonDecreasingBy (λ (edge : Edge). edge.waiter)) (sym (c.deref-3.ensures.value ∙ c.in_ok-edges.ensures)) (edges-grouped c.args.board.now.pending)

pub returns : goal.returns
returns g c =
    let pool = c.args.board.now in
    let names = c.args.wanted.now in
    let items = c.deref.result.now in
    let named = ap (map (λ name. name.now)) c.deref.ensures.value ∙ c.in_ok-names.ensures in
    let flags = c.deref-4.ensures.value ∙ c.in_ok-matched.ensures.matched in
    let asked = c.deref-5.ensures.value ∙ c.in_ok-first.ensures ∙ ap (map (λ name. list_any (bytes_eq name.now) names)) (c.deref-2.ensures.value ∙ sym c.deref.ensures.value) in
    IfOk-weaker c.idle_of.result _ _
    (λ idle is.
    exact-read pool c.len-good.ensures.valid names (λ name. name.now) items named c.deref-4.result.now flags c.deref-5.result.now asked c.deref-3.result.now (c.deref-3.ensures.value ∙ c.in_ok-edges.ensures)
    c.in_ok-reached.reached.items idle.items c.in_ok-reached.ensures.long (is ∙ ap (map not) c.deref-6.ensures.value) c.in_ok-reached.ensures.reached c.in_ok-matched.ensures.known)
    c.idle_of.ensures
