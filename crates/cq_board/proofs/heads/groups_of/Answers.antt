use Rattle.std.proofs.Common.{ℕ, List, ◌++◌, get_or, ap, sym, ◌∙◌}
use Rattle.cq_board.specs.Steps.Heads.{heads_at}
use Rattle.cq_board.specs.Steps.Nearest.{HeadRecord}
use Rattle.cq_board.proofs.Missing.{flat_more_by}
use Rattle.cq_board.proofs.heads.groups_of.Goals as goal

pub loop-number-preserved : goal.loop-number-preserved
loop-number-preserved g c =
    let seats = c.args.seats.now in
    let i = c.loop-number.number in
    let s = c.index-seats-number.result in
    record {
      kept = λ relation arity.
          let test : ℕ × ℕ → List HeadRecord = heads_at relation arity c.args.grounded.now in
          c.in_ok-put_heads_at.ensures.heads relation arity ∙ ap (λ (found : List HeadRecord). found ++ test (i, (get_or seats i s).now.place)) (c.loop-number.invariant.kept relation arity)
          ∙ sym (flat_more_by test (λ s. s.now.place) seats i s c.loop-number-test.true);
      told = c.in_ok-put_heads_at.ensures.told c.loop-number.invariant.told;
    }
