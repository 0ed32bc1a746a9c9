use Rattle.std.proofs.Common.{◌++◌, ℕ, List, [], Option, sym, subst, append_assoc}
use Rattle.std.specs.Prelude.{decimal}
use Rattle.std.proofs.lemmas.Result.{err_from_is_err_and, on_ok_weaker, on_err_weaker}
use Rattle.cq_devices.specs.declared.stop.Stop.TheVariants.{Write}
use Rattle.cq_ask.specs.Answer.{number_bytes}
use Rattle.cq_report.specs.Steps.Written.{Puts, Breaks}
use Rattle.cq_report.specs.Steps.Writing.{Puts-then, Puts-breaks, Breaks-more}
use Rattle.cq_report.proofs.output.Output.put_count.Goals as goal

pub returns-in_err-put-clause-err : goal.returns-in_err-put-clause-err
returns-in_err-put-clause-err g c =
    let p = err_from_is_err_and c.from_residual.result c.from_residual.ensures.1 in
    let part = c.args.part.now in
    rw p.1 (Breaks-more _ _ _ _ part.words.now (number_bytes part.mark.now part.number) Write (rw c.as_bytes.ensures.value at c.in_err-put.ensures.err))

pub returns-in-None-clause-ok : goal.returns-in-None-clause-ok
returns-in-None-clause-ok g c =
    let part = c.args.part.now in
    let words = part.words.now in
    on_ok_weaker c.put-in-None.result
    (λ last. subst (λ (number : Option ℕ). Puts g.W.Sink.taken g.W.Sink.write_failures c.args.self.now c.put-in-None.new.self (words ++ number_bytes part.mark.now number)) (sym c.in-None.is)
    (Puts-then _ _ _ _ _ words [] (rw c.as_bytes.ensures.value at c.in_ok-put.ensures.ok) last))
    c.put-in-None.ensures.ok

pub returns-in-None-clause-err : goal.returns-in-None-clause-err
returns-in-None-clause-err g c =
    let part = c.args.part.now in
    let words = part.words.now in
    on_err_weaker c.put-in-None.result
    (λ last. subst (λ (number : Option ℕ). Breaks g.W.Sink.taken g.W.Sink.write_failures c.args.self.now c.put-in-None.new.self (words ++ number_bytes part.mark.now number) Write) (sym c.in-None.is)
    (Puts-breaks _ _ _ _ _ words [] Write (rw c.as_bytes.ensures.value at c.in_ok-put.ensures.ok) last))
    c.put-in-None.ensures.err

pub returns-in-Some-clause-ok : goal.returns-in-Some-clause-ok
returns-in-Some-clause-ok g c =
    let part = c.args.part.now in
    let words = part.words.now in
    let mark = part.mark.now in
    on_ok_weaker c.put_part.result
    (λ last. subst (λ (number : Option ℕ). Puts g.W.Sink.taken g.W.Sink.write_failures c.args.self.now c.put_part.new.self (words ++ number_bytes part.mark.now number)) (sym c.in-Some.is)
    (subst (λ (bytes : List ℕ). Puts g.W.Sink.taken g.W.Sink.write_failures c.args.self.now c.put_part.new.self (words ++ bytes)) (sym (append_assoc mark (decimal c.in-Some.number) mark))
    (Puts-then _ _ _ _ _ words (mark ++ (decimal c.in-Some.number ++ mark)) (rw c.as_bytes.ensures.value at c.in_ok-put.ensures.ok) last)))
    c.put_part.ensures.ok

pub returns-in-Some-clause-err : goal.returns-in-Some-clause-err
returns-in-Some-clause-err g c =
    let part = c.args.part.now in
    let words = part.words.now in
    let mark = part.mark.now in
    on_err_weaker c.put_part.result
    (λ last. subst (λ (number : Option ℕ). Breaks g.W.Sink.taken g.W.Sink.write_failures c.args.self.now c.put_part.new.self (words ++ number_bytes part.mark.now number) Write) (sym c.in-Some.is)
    (subst (λ (bytes : List ℕ). Breaks g.W.Sink.taken g.W.Sink.write_failures c.args.self.now c.put_part.new.self (words ++ bytes) Write) (sym (append_assoc mark (decimal c.in-Some.number) mark))
    (Puts-breaks _ _ _ _ _ words (mark ++ (decimal c.in-Some.number ++ mark)) Write (rw c.as_bytes.ensures.value at c.in_ok-put.ensures.ok) last)))
    c.put_part.ensures.err
