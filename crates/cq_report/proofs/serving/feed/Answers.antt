use Rattle.std.proofs.Common.{◌∷◌, ◌++◌, [], ℕ, List, Option, length, refl, ap, subst, length-append, arith}
use Rattle.std.proofs.lemmas.Result.{err_from_is_err_and}
use Rattle.cq_report.specs.Steps.Serving.{Answers, AnswerStops}
use Rattle.cq_report.proofs.Served.{IsSound-nothing, IsSound-then, IsSound-fails, cut_past, ServesOn-nothing, ServesOn-line, ServesOn-front, StopsOn-line}
use Rattle.cq_report.proofs.serving.feed.Goals as goal

pub loop-last-init : goal.loop-last-init
loop-last-init g c = record {
  done = [];
  cut = refl;
  on = ServesOn-nothing _ _ _ _ _ _;
  counted = omega arith;
  sound = IsSound-nothing _ _;
}

pub returns-in_err-answer-clause-err : goal.returns-in_err-answer-clause-err
returns-in_err-answer-clause-err g c =
    let p = err_from_is_err_and c.from_residual.result c.from_residual.ensures.1 in
    let i = c.loop-last.invariant in
    let stopped = subst (λ (line : Option (List ℕ)). AnswerStops c.args.manner g.W.Sink.taken g.W.Sink.write_failures c.loop-last.output c.answer.new.output c.loop-last.script line c.in_err-answer.field-0.0) c.whole.ensures c.in_err-answer.ensures.err in
    rw (p.1, p.2)
    (StopsOn-line _ _ _ c.args.output.now c.loop-last.output c.answer.new.output _ c.loop-last.script _ c.loop-last.line c.end.new.self i.done c.loop-last.rest.now c.in-Some.last.now c.in-Some.behind.now c.args.piece.now c.in_err-answer.field-0.0 i.on i.cut
    c.in-Some.ensures.cut c.in-Some.ensures.line c.end.ensures stopped)

pub returns-in_err-answer-clause-fails : goal.returns-in_err-answer-clause-fails
returns-in_err-answer-clause-fails g c =
    let p = err_from_is_err_and c.from_residual.result c.from_residual.ensures.1 in
    rw (p.1, p.2) (IsSound-fails _ _ _ _ _ c.loop-last.invariant.sound c.in_err-answer.ensures.fails)

pub loop-last-smaller : goal.loop-last-smaller
loop-last-smaller g c =
    let parts = ap length c.in-Some.ensures.cut in
    let both = length-append c.in-Some.last.now (10 ∷ c.in-Some.behind.now) in
    omega (arith, parts, both)

pub loop-last-preserved : goal.loop-last-preserved
loop-last-preserved g c =
    let i = c.loop-last.invariant in
    let parts = ap length c.in-Some.ensures.cut in
    let both = length-append c.in-Some.last.now (10 ∷ c.in-Some.behind.now) in
    let served = subst (λ (line : Option (List ℕ)). Answers c.args.manner g.W.Sink.taken g.W.Sink.write_failures c.loop-last.output c.answer.new.output c.loop-last.script c.answer.new.self line) c.whole.ensures c.in_ok-answer.ensures.ok in
    let lines = c.in_ok-answer.ensures.lines in
    record {
      done = i.done ++ (c.in-Some.last.now ++ 10 ∷ []);
      cut = cut_past i.done c.loop-last.rest.now c.in-Some.last.now c.in-Some.behind.now c.args.piece.now i.cut c.in-Some.ensures.cut;
      on = rw c.clear.ensures (ServesOn-line _ _ _ c.args.output.now c.loop-last.output c.answer.new.output _ c.loop-last.script c.answer.new.self _ c.loop-last.line c.end.new.self i.done c.in-Some.last.now i.on c.in-Some.ensures.line c.end.ensures served);
      counted = omega (arith, parts, both, i.counted, lines);
      sound = IsSound-then _ _ _ _ i.sound c.in_ok-answer.ensures.sound;
    }

pub returns-clause-ok : goal.returns-clause-ok
returns-clause-ok g c =
    let i = c.loop-last.invariant in
    ServesOn-front _ _ _ _ _ _ _ _ _ _ i.done c.loop-last.rest.now c.args.piece.now i.on i.cut c.in_default.ensures.none c.extend.ensures
