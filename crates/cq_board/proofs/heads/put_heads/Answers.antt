use Rattle.std.proofs.Common.{ℕ, List, ◌++◌, take, ap, sym, ◌∙◌, append_assoc}
use Rattle.std.specs.List.{flat_map, enumerate_from}
use Rattle.cq_atom.specs.Atom.{AtomRecord}
use Rattle.cq_board.specs.Steps.Heads.{head_if, kept_under}
use Rattle.cq_board.specs.Steps.Nearest.{HeadRecord}
use Rattle.cq_board.proofs.Missing.{flat_more}
use Rattle.cq_board.proofs.heads.put_heads.Goals as goal

pub loop-place-preserved : goal.loop-place-preserved
loop-place-preserved g c =
    let heads = c.args.heads.now in
    let i = c.loop-place.place in
    let x = c.index-heads-place.result in
    record {
      kept = λ relation arity.
          let test : ℕ × AtomRecord → List HeadRecord = head_if relation arity c.args.number in
          let before = kept_under c.args.groups.now relation arity in
          let so_far = flat_map test (enumerate_from 0 (take i heads)) in
          c.in_ok-put.ensures.heads relation arity ∙ ap (λ (found : List HeadRecord). found ++ test (i, x)) (c.loop-place.invariant.kept relation arity) ∙ append_assoc before so_far (test (i, x))
          ∙ ap (λ (y : AtomRecord). before ++ (so_far ++ test (i, y))) c.index-heads-place.is ∙ ap (λ (more : List HeadRecord). before ++ more) (sym (flat_more test heads i x c.loop-place-test.true));
      told = λ told. c.in_ok-put.ensures.told (c.loop-place.invariant.told told);
    }
