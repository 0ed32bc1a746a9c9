use Rattle.std.proofs.Common.{◌+◌, ℕ, [], ◌∙◌, ap}
use Rattle.std.proofs.lemmas.Result.{err_from_is_err_and}
use Rattle.cq_report.specs.Steps.Writing.{Breaks-more, Passes-behind, Passes-front}
use Rattle.cq_report.proofs.output.Output.put.Goals as goal

pub returns-in_err-write_out-clause-err : goal.returns-in_err-write_out-clause-err
returns-in_err-write_out-clause-err g c =
    let p = err_from_is_err_and c.from_residual.result c.from_residual.ensures.1 in
    rw p.1 (Breaks-more _ _ _ _ [] c.args.bytes.now _ c.in_err-write_out.ensures.err)

pub returns-in_err-write_all-clause-err : goal.returns-in_err-write_all-clause-err
returns-in_err-write_all-clause-err g c =
    let p = err_from_is_err_and c.from_residual-in_err-write_all.result c.from_residual-in_err-write_all.ensures.1 in
    let w = c.in_ok-write_out.ensures in
    let d = c.in_err-write_all.ensures in
    rw p.1 (record {
      writer = w.ok.writer;
      failed = d.failures ∙ ap (λ (n : ℕ). n + 1) w.ok.failed;
      took = Passes-front _ _ _ _ _ [] _ w.ok.passed (rw w.held d.err);
    })

pub returns-clause-ok : goal.returns-clause-ok
returns-clause-ok g c =
    let w = c.in_ok-write_out.ensures in
    record {
      writer = w.ok.writer;
      failed = c.in_ok-write_all.ensures.failures ∙ w.ok.failed;
      passed = let done = Passes-behind _ _ _ _ _ _ w.ok.passed w.held c.in_ok-write_all.ensures.ok in rw w.held done;
    }
