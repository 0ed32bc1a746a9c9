use Rattle.std.proofs.Common.{◌∙◌, ◌++◌, ℕ, List, map, ap, subst, arith}
use Rattle.std.specs.Prelude.{string_bytes}
use Rattle.std.specs.List.{enumerate_from}
use Rattle.std.proofs.lemmas.List.{take_all}
use Rattle.cq_render.specs.Explain.{ArePieces}
use Rattle.cq_going.specs.Grouping.{IsGroupTold, names_labelled}
use Rattle.cq_going.proofs.Listed.{numbers_step, length_enumerated}
use Rattle.cq_going.proofs.grouping.put_groups.Goals as goal

pub loop-label-preserved : goal.loop-label-preserved
loop-label-preserved g c empty =
    let grouped = c.args.grouped.now in
    let T : ℕ → List ℕ → Type 0 = λ n. IsGroupTold c.args.board.now (names_labelled grouped.matched.items grouped.labels.items (map (λ name. name.now) grouped.names.items) n) in
    numbers_step T grouped.names.items c.loop-label.label (string_bytes c.loop-label.page) _ (string_bytes c.in_ok-line.line) (let low = c.loop-label-test.true in let is = c.len-label-end.ensures in omega (arith, low, is)) (c.loop-label.invariant empty)
    (subst (λ (ns : List (List ℕ)). IsGroupTold c.args.board.now ns (string_bytes c.in_ok-line.line)) (c.deref.ensures.value ∙ c.in_ok-names.ensures) c.in_ok-line.ensures)
    (c.in_ok-push_str.ensures.bytes ∙ ap (λ (text : List ℕ). string_bytes c.loop-label.page ++ text) c.as_str.ensures.value)

pub returns : goal.returns
returns g c empty =
    let grouped = c.args.grouped.now in
    subst (λ ps. ArePieces (λ p. IsGroupTold c.args.board.now (names_labelled grouped.matched.items grouped.labels.items (map (λ name. name.now) grouped.names.items) p.0)) ps (string_bytes c.loop-label.page))
    (take_all c.loop-label.label (enumerate_from 0 grouped.names.items) (let done = c.loop-label-test.false in let is = c.len-label-end.ensures in let long = length_enumerated 0 grouped.names.items in omega (arith, done, is, long))) (c.loop-label.invariant empty)
