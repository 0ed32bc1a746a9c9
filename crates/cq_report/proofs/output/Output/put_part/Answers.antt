use Rattle.std.proofs.Common.{◌++◌}
use Rattle.std.proofs.lemmas.Result.{err_from_is_err_and, on_ok_weaker, on_err_weaker}
use Rattle.cq_devices.specs.declared.stop.Stop.TheVariants.{Write}
use Rattle.cq_report.specs.Steps.Lines.{number_bytes}
use Rattle.cq_report.specs.Steps.Writing.{Puts-then, Puts-breaks, Breaks-more}
use Rattle.cq_report.proofs.output.Output.put_part.Goals as goal

pub returns-in_err-put-clause-err : goal.returns-in_err-put-clause-err
returns-in_err-put-clause-err g c =
    let p = err_from_is_err_and c.from_residual.result c.from_residual.ensures.1 in
    rw p.1 (Breaks-more _ _ _ _ c.args.words.now (number_bytes c.args.number ++ c.args.end.now) Write (rw c.as_bytes.ensures.value at c.in_err-put.ensures.err))

pub returns-in_err-put_number-clause-err : goal.returns-in_err-put_number-clause-err
returns-in_err-put_number-clause-err g c =
    let p = err_from_is_err_and c.from_residual-in_err-put_number.result c.from_residual-in_err-put_number.ensures.1 in
    let number = number_bytes c.args.number in
    let end = c.args.end.now in
    rw p.1 (Puts-breaks _ _ _ _ _ c.args.words.now (number ++ end) Write (rw c.as_bytes.ensures.value at c.in_ok-put.ensures.ok) (Breaks-more _ _ _ _ number end Write c.in_err-put_number.ensures.err))

pub returns-clause-ok : goal.returns-clause-ok
returns-clause-ok g c =
    let words = c.args.words.now in
    let number = number_bytes c.args.number in
    let end = c.args.end.now in
    on_ok_weaker c.put-2.result
    (λ last. Puts-then _ _ _ _ _ words (number ++ end) (rw c.as_bytes.ensures.value at c.in_ok-put.ensures.ok) (Puts-then _ _ _ _ _ number end c.in_ok-put_number.ensures.ok (rw c.as_bytes-2.ensures.value at last)))
    c.put-2.ensures.ok

pub returns-clause-err : goal.returns-clause-err
returns-clause-err g c =
    let words = c.args.words.now in
    let number = number_bytes c.args.number in
    let end = c.args.end.now in
    on_err_weaker c.put-2.result
    (λ last. Puts-breaks _ _ _ _ _ words (number ++ end) Write (rw c.as_bytes.ensures.value at c.in_ok-put.ensures.ok) (Puts-breaks _ _ _ _ _ number end Write c.in_ok-put_number.ensures.ok (rw c.as_bytes-2.ensures.value at last)))
    c.put-2.ensures.err
