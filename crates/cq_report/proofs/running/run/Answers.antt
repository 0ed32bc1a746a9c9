use Rattle.std.proofs.Common.{rules, ap}
use Rattle.std.proofs.lemmas.Result.{err_from_is_err_and, on_ok_weaker, IfErr-weaker}
use Rattle.cq_report.proofs.Ending.{failed_reads, failed_turn, rises_by}
use Rattle.cq_report.proofs.Runs.{ran-state, ran-err, ran-match}
use Rattle.cq_report.proofs.Scripts.{ServedOut-heard, Stopped-first, Stopped-front, Stopped-whole, WroteFirstLines-none}
use Rattle.cq_report.proofs.running.run.Goals as goal

pub returns-clause-heard : goal.returns-clause-heard
returns-clause-heard g c =
    ran-state _ c.serve-ended.result _ _ c.run_of.ensures
    (on_ok_weaker c.serve-ended.result (λ r. ServedOut-heard c.one_reading.ensures.commands c.args.is_strict c.args.numbering g.W.Sink.taken g.W.Sink.write_failures _ _ _ _ _ _ _ c.begin-script.ensures.state c.new-output.ensures.held (ap g.W.Sink.taken c.new-output.ensures.same) (search rules) _ r) c.serve-ended.ensures.ok)

pub returns-clause-whole_lines : goal.returns-clause-whole_lines
returns-clause-whole_lines g c =
    ran-err _ c.serve-ended.result _ _ c.run_of.ensures
    (IfErr-weaker c.serve-ended.result _ _ (λ stop h. Stopped-whole c.one_reading.ensures.commands c.args.is_strict c.args.numbering g.W.Sink.taken g.W.Sink.write_failures _ _ _ _ _ _ _ c.begin-script.ensures.state c.new-output.ensures.held (ap g.W.Sink.taken c.new-output.ensures.same) (search rules) stop h) c.serve-ended.ensures.err)

pub returns-clause-first_lines : goal.returns-clause-first_lines
returns-clause-first_lines g c =
    ran-err _ c.serve-ended.result _ _ c.run_of.ensures
    (IfErr-weaker c.serve-ended.result _ _ (λ stop h. Stopped-first c.one_reading.ensures.commands c.args.is_strict c.args.numbering g.W.Sink.taken g.W.Sink.write_failures _ _ _ _ _ _ _ c.begin-script.ensures.state c.new-output.ensures.held (ap g.W.Sink.taken c.new-output.ensures.same) (search rules) stop h) c.serve-ended.ensures.err)

pub returns-in_err-room-clause-first_lines : goal.returns-in_err-room-clause-first_lines
returns-in_err-room-clause-first_lines g c =
    let p = err_from_is_err_and c.from_residual.result c.from_residual.ensures.1 in
    rw (p.1, p.2) (WroteFirstLines-none _ _ _)

pub returns-in_err-line-clause-first_lines : goal.returns-in_err-line-clause-first_lines
returns-in_err-line-clause-first_lines g c =
    let p = err_from_is_err_and c.from_residual-in_err-line.result c.from_residual-in_err-line.ensures.1 in
    rw (p.1, p.2) (WroteFirstLines-none _ _ _)

pub returns-clause-front : goal.returns-clause-front
returns-clause-front g c =
    ran-err _ c.serve-ended.result _ _ c.run_of.ensures
    (IfErr-weaker c.serve-ended.result _ _ (λ stop h. Stopped-front c.one_reading.ensures.commands c.args.is_strict c.args.numbering g.W.Sink.taken g.W.Sink.write_failures _ _ _ _ _ _ _ c.begin-script.ensures.state c.new-output.ensures.held (ap g.W.Sink.taken c.new-output.ensures.same) (search rules) stop h) c.serve-ended.ensures.err)

pub returns-clause-turn : goal.returns-clause-turn
returns-clause-turn g c = ran-err _ c.serve-ended.result _ _ c.run_of.ensures (failed_turn c.serve-ended.result _ _ _ _ _ c.serve-ended.ensures.read_failures)

pub returns-clause-read_failures : goal.returns-clause-read_failures
returns-clause-read_failures g c = ran-match _ c.serve-ended.result _ _ _ c.run_of.ensures (failed_reads c.serve-ended.result _ _ _ _ c.serve-ended.ensures.read_failures)

pub returns-clause-write_failures : goal.returns-clause-write_failures
returns-clause-write_failures g c =
    ran-match _ c.serve-ended.result _ _ _ c.run_of.ensures
    (rises_by c.serve-ended.result _ _ _ _ (ap g.W.Sink.write_failures c.new-output.ensures.same) (search rules) c.serve-ended.ensures.write_failures)
