use Rattle.std.proofs.Common.{◌++◌, [], ℕ, List, map, refl, sym, subst, append-nil, arith}
use Rattle.std.specs.List.{enumerate_from}
use Rattle.std.proofs.lemmas.List.{take_all}
use Rattle.json.specs.Json.{Json}
use Rattle.cq_render.specs.Explain.{ArePieces}
use Rattle.cq_going.specs.Grouping.{names_labelled}
use Rattle.cq_going.specs.Data.{IsGroupJson}
use Rattle.cq_going.specs.Steps.Tokens.{ArePut}
use Rattle.cq_going.proofs.Listed.{numbers_step, length_enumerated}
use Rattle.cq_going.proofs.Tokens.{items_more}
use Rattle.cq_going.proofs.data_groups.put_each.Goals as goal

pub loop-label-init : goal.loop-label-init
loop-label-init g c = ([], refl, sym (append-nil c.args.sheet.now))

pub loop-label-preserved : goal.loop-label-preserved
loop-label-preserved g c =
    let grouped = c.args.grouped.now in
    let T : ℕ → List Json → Type 0 = λ n. IsGroupJson c.args.board.now (names_labelled grouped.matched.items grouped.labels.items (map (λ name. name.now) grouped.names.items) n) in
    let so_far = c.loop-label.invariant in
    let one = c.in_ok-put_labelled.ensures in (
      so_far.0 ++ one.0,
      numbers_step T grouped.names.items c.loop-label.label so_far.0 _ one.0 (let low = c.loop-label-test.true in let is = c.len-label-end.ensures in omega (arith, low, is)) so_far.1 one.1 refl,
      items_more c.args.sheet.now c.loop-label.sheet c.put_labelled.new.sheet so_far.0 one.0 so_far.2 one.2,
    )

pub returns : goal.returns
returns g c =
    let grouped = c.args.grouped.now in
    let T : ℕ → List Json → Type 0 = λ n. IsGroupJson c.args.board.now (names_labelled grouped.matched.items grouped.labels.items (map (λ name. name.now) grouped.names.items) n) in
    subst (λ ps. ArePut (ArePieces (λ p. T p.0) ps) c.args.sheet.now c.loop-label.sheet)
    (take_all c.loop-label.label (enumerate_from 0 grouped.names.items) (let done = c.loop-label-test.false in let is = c.len-label-end.ensures in let long = length_enumerated 0 grouped.names.items in omega (arith, done, is, long)))
    c.loop-label.invariant
