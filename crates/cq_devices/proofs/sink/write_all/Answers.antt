use Rattle.std.proofs.Common.{take, drop, arith, ◌∙◌, take-append-drop}
use Rattle.std.proofs.lemmas.Result.{err_from_is_err_and}
use Rattle.std.proofs.lemmas.List.{take_rest, length-drop}
use Rattle.std.proofs.KnownBytes.{Appends-trans, Appends-kept}
use Rattle.std.proofs.Math.Seq.{take-add}
use Rattle.cq_devices.proofs.sink.write_all.Goals as goal

pub loop-at-preserved : goal.loop-at-preserved
loop-at-preserved g c =
    let b = simp take_rest at c.in_ok-at.ensures.bytes in
    let w = simp (take_rest, length-drop) at c.in_ok-at.ensures.bound in
    record {
      within = omega (arith, w, c.loop-at.invariant.within);
      so_far = rw take-add (Appends-trans _ _ _ _ _ c.loop-at.invariant.so_far b);
      failures = c.in_ok-at.ensures.failures ∙ c.loop-at.invariant.failures;
    }

pub returns-in_err-at-clause-err : goal.returns-in_err-at-clause-err
returns-in_err-at-clause-err g c =
    let p = err_from_is_err_and c.from_residual.result c.from_residual.ensures.1 in
    rw p.1 (record {
      front = take c.loop-at.at c.args.bytes.now;
      rest = drop c.loop-at.at c.args.bytes.now;
      took = Appends-kept _ _ _ _ c.loop-at.invariant.so_far c.in_err-at.ensures.bytes;
      whole = take-append-drop c.loop-at.at c.args.bytes.now;
    })
