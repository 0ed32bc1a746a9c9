use Rattle.std.proofs.Common.{◌∙◌, ℕ, List, inr, ap, sym, subst}
use Rattle.std.specs.Option.{option_map}
use Rattle.std.proofs.lemmas.Result.{err_from_is_err_and}
use Rattle.cq_devices.specs.declared.stop.Stop.TheVariants.{Write}
use Rattle.cq_report.specs.Machine.{State, form_in, numbered}
use Rattle.cq_report.specs.Steps.Serving.{Answers, AnswerStops}
use Rattle.cq_report.specs.Steps.Turns.{IsSaid, turn_bytes}
use Rattle.cq_report.specs.Steps.Written.{Puts, Breaks}
use Rattle.cq_report.proofs.Answering.{on_ok_as, if_err_as}
use Rattle.cq_report.proofs.Obeying.{may_by, told_by}
use Rattle.cq_report.proofs.script.Script.answer.Goals as goal

-- groundings are asked for
pub returns-in-Some-clause-ok : goal.returns-in-Some-clause-ok
returns-in-Some-clause-ok g c =
    let line = option_map (λ line. line.now) c.args.line in
    let said = subst (IsSaid c.args.manner (form_in c.args.self.now) line) c.in-Some.ensures.0 c.read-said.ensures in
    on_ok_as c.answer_find.result _ _ (λ ok. ok line said) c.answer_find.ensures.ok

pub returns-in-Some-clause-err : goal.returns-in-Some-clause-err
returns-in-Some-clause-err g c =
    let line = option_map (λ line. line.now) c.args.line in
    let said = subst (IsSaid c.args.manner (form_in c.args.self.now) line) c.in-Some.ensures.0 c.read-said.ensures in
    if_err_as c.answer_find.result _ _ (λ stop err. err line said) c.answer_find.ensures.err

pub returns-in_err-put_reply-in-Ok-clause-err : goal.returns-in_err-put_reply-in-Ok-clause-err
returns-in_err-put_reply-in-Ok-clause-err g c =
    let p = err_from_is_err_and c.from_residual.result c.from_residual.ensures.1 in
    let old = c.args.self.now in
    let put = λ (s : State). numbered s.numbering s.lines (turn_bytes s.numbering c.in-Ok.turn) in
    rw (p.1, p.2) (inr (λ all known.
    let told = told_by c.args.manner old c.obey.new.self (option_map (λ line. line.now) c.args.line) c.read-said.result c.in-Ok.turn all (sym c.is_done.ensures ∙ c.if-is_done.false) c.read-said.ensures c.in_default.ensures c.in-Ok.ensures.ok known in
    record {
      turn = told.one;
      is = told.is;
      breaks = subst (λ (bytes : List ℕ). Breaks g.W.Sink.taken g.W.Sink.write_failures c.args.output.now c.put_reply.new.self bytes Write) (ap put c.self.view_is ∙ told.reply) c.in_err-put_reply-in-Ok.ensures.err;
    }))

pub returns-in_ok-put_reply-in-Ok-clause-ok : goal.returns-in_ok-put_reply-in-Ok-clause-ok
returns-in_ok-put_reply-in-Ok-clause-ok g c = λ all known.
    let old = c.args.self.now in
    let put = λ (s : State). numbered s.numbering s.lines (turn_bytes s.numbering c.in-Ok.turn) in
    let told = told_by c.args.manner old c.obey.new.self (option_map (λ line. line.now) c.args.line) c.read-said.result c.in-Ok.turn all (sym c.is_done.ensures ∙ c.if-is_done.false) c.read-said.ensures c.in_default.ensures c.in-Ok.ensures.ok known in
    record {
      turn = told.one;
      is = told.is;
      after = told.after;
      puts = subst (Puts g.W.Sink.taken g.W.Sink.write_failures c.args.output.now c.put_reply.new.self) (ap put c.self.view_is ∙ told.reply) c.in_ok-put_reply-in-Ok.ensures.ok;
    }

pub returns-in-Err-clause-ok : goal.returns-in-Err-clause-ok
returns-in-Err-clause-ok g c =
    let line = option_map (λ line. line.now) c.args.line in
    let may = may_by c.args.manner (form_in c.args.self.now) line c.read-said.result c.read-said.ensures c.in-Err.ensures.wants in
    on_ok_as c.starve.result _ _ (λ ok. subst (λ (s : State). Answers c.args.manner g.W.Sink.taken g.W.Sink.write_failures c.args.output.now c.starve.new.output s c.starve.new.self line) c.in-Err.ensures.err (ok line may)) c.starve.ensures.ok

pub returns-in-Err-clause-err : goal.returns-in-Err-clause-err
returns-in-Err-clause-err g c =
    let line = option_map (λ line. line.now) c.args.line in
    let may = may_by c.args.manner (form_in c.args.self.now) line c.read-said.result c.read-said.ensures c.in-Err.ensures.wants in
    if_err_as c.starve.result _ _ (λ stop err. subst (λ (s : State). AnswerStops c.args.manner g.W.Sink.taken g.W.Sink.write_failures c.args.output.now c.starve.new.output s line stop) c.in-Err.ensures.err (err line may)) c.starve.ensures.err
