use Rattle.std.proofs.Common.{◌∙◌, ℕ, List, Option, sym, subst}
use Rattle.std.proofs.lemmas.Result.{err_from_is_err_and}
use Rattle.cq_report.specs.Steps.Serving.{Answers, AnswerStops}
use Rattle.cq_report.proofs.Served.{Finishes-whole, Finishes-last, StopsOn-whole, StopsOn-finished, StopsOn-last}
use Rattle.cq_report.proofs.serving.finish.Goals as goal

pub returns-in_err-finish-clause-err : goal.returns-in_err-finish-clause-err
returns-in_err-finish-clause-err g c =
    let p = err_from_is_err_and c.from_residual.result c.from_residual.ensures.1 in
    rw (p.1, p.2) (StopsOn-whole _ _ _ _ _ _ _ c.in_err-finish.ensures.err)

pub returns-then-is_new-clause-ok : goal.returns-then-is_new-clause-ok
returns-then-is_new-clause-ok g c = Finishes-whole _ _ _ _ _ _ _ (sym c.is_new.ensures ∙ c.if-is_new.true) c.in_ok-finish.ensures.ok

pub returns-in_err-answer-clause-err : goal.returns-in_err-answer-clause-err
returns-in_err-answer-clause-err g c =
    let p = err_from_is_err_and c.from_residual-in_err-answer.result c.from_residual-in_err-answer.ensures.1 in
    let stopped = subst (λ (line : Option (List ℕ)). AnswerStops c.args.manner g.W.Sink.taken g.W.Sink.write_failures c.args.output.now c.answer.new.output c.args.script.now line c.in_err-answer.field-0.0) c.whole.ensures c.in_err-answer.ensures.err in
    rw (p.1, p.2) (StopsOn-last _ _ _ _ _ _ _ _ (sym c.is_new.ensures ∙ c.if-is_new.false) stopped)

pub returns-in_err-finish-2-clause-err : goal.returns-in_err-finish-2-clause-err
returns-in_err-finish-2-clause-err g c =
    let p = err_from_is_err_and c.from_residual-in_err-finish-2.result c.from_residual-in_err-finish-2.ensures.1 in
    let served = subst (λ (line : Option (List ℕ)). Answers c.args.manner g.W.Sink.taken g.W.Sink.write_failures c.args.output.now c.answer.new.output c.args.script.now c.answer.new.self line) c.whole.ensures c.in_ok-answer.ensures.ok in
    rw (p.1, p.2) (StopsOn-finished _ _ _ _ _ _ _ _ _ (sym c.is_new.ensures ∙ c.if-is_new.false) served c.in_err-finish-2.ensures.err)

pub returns-clause-ok : goal.returns-clause-ok
returns-clause-ok g c =
    let served = subst (λ (line : Option (List ℕ)). Answers c.args.manner g.W.Sink.taken g.W.Sink.write_failures c.args.output.now c.answer.new.output c.args.script.now c.answer.new.self line) c.whole.ensures c.in_ok-answer.ensures.ok in
    Finishes-last _ _ _ _ _ _ _ _ _ (sym c.is_new.ensures ∙ c.if-is_new.false) served c.in_ok-finish-2.ensures.ok
