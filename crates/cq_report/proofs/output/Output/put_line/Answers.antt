use Rattle.std.proofs.Common.{◌++◌, ℕ, List, subst}
use Rattle.std.proofs.lemmas.Result.{err_from_is_err_and, on_ok_weaker, on_err_weaker}
use Rattle.cq_devices.specs.declared.stop.Stop.TheVariants.{Write}
use Rattle.cq_report.specs.Steps.Lines.{line_bytes}
use Rattle.cq_report.specs.Steps.Written.{Puts, Breaks}
use Rattle.cq_report.specs.Steps.Writing.{Puts-then, Puts-breaks, Breaks-more}
use Rattle.cq_report.proofs.output.Output.put_line.Goals as goal

pub returns-in_err-put_part-clause-err : goal.returns-in_err-put_part-clause-err
returns-in_err-put_part-clause-err g c =
    let p = err_from_is_err_and c.from_residual.result c.from_residual.ensures.1 in
    let it = c.line.inside in
    let rest = (it.before_part.now ++ it.part.now) ++ line_bytes it.before_number.now it.number it.end.now in
    rw p.1
    (subst (λ (bytes : List ℕ). Breaks g.W.Sink.taken g.W.Sink.write_failures c.args.self.now c.put_part.new.self bytes Write) c.line.view_is
    (Breaks-more _ _ _ _ (it.front.now ++ it.word.now) rest Write c.in_err-put_part.ensures.err))

pub returns-in_err-put_part-2-clause-err : goal.returns-in_err-put_part-2-clause-err
returns-in_err-put_part-2-clause-err g c =
    let p = err_from_is_err_and c.from_residual-in_err-put_part-2.result c.from_residual-in_err-put_part-2.ensures.1 in
    let it = c.line.inside in
    let part = it.before_part.now ++ it.part.now in
    let last = line_bytes it.before_number.now it.number it.end.now in
    rw p.1
    (subst (λ (bytes : List ℕ). Breaks g.W.Sink.taken g.W.Sink.write_failures c.args.self.now c.put_part-2.new.self bytes Write) c.line.view_is
    (Puts-breaks _ _ _ _ _ (it.front.now ++ it.word.now) (part ++ last) Write c.in_ok-put_part.ensures.ok (Breaks-more _ _ _ _ part last Write c.in_err-put_part-2.ensures.err)))

pub returns-clause-ok : goal.returns-clause-ok
returns-clause-ok g c =
    let it = c.line.inside in
    let part = it.before_part.now ++ it.part.now in
    let last = line_bytes it.before_number.now it.number it.end.now in
    on_ok_weaker c.put_part-3.result
    (λ put. subst (λ (bytes : List ℕ). Puts g.W.Sink.taken g.W.Sink.write_failures c.args.self.now c.put_part-3.new.self bytes) c.line.view_is
    (Puts-then _ _ _ _ _ (it.front.now ++ it.word.now) (part ++ last) c.in_ok-put_part.ensures.ok (Puts-then _ _ _ _ _ part last c.in_ok-put_part-2.ensures.ok put)))
    (rw c.wide.ensures at c.put_part-3.ensures.ok)

pub returns-clause-err : goal.returns-clause-err
returns-clause-err g c =
    let it = c.line.inside in
    let part = it.before_part.now ++ it.part.now in
    let last = line_bytes it.before_number.now it.number it.end.now in
    on_err_weaker c.put_part-3.result
    (λ put. subst (λ (bytes : List ℕ). Breaks g.W.Sink.taken g.W.Sink.write_failures c.args.self.now c.put_part-3.new.self bytes Write) c.line.view_is
    (Puts-breaks _ _ _ _ _ (it.front.now ++ it.word.now) (part ++ last) Write c.in_ok-put_part.ensures.ok (Puts-breaks _ _ _ _ _ part last Write c.in_ok-put_part-2.ensures.ok put)))
    (rw c.wide.ensures at c.put_part-3.ensures.err)
