use Rattle.std.proofs.Common.{◌∙◌, ℕ, List, inr, ap, subst}
use Rattle.std.proofs.lemmas.Result.{err_from_is_err_and}
use Rattle.cq_devices.specs.declared.stop.Stop.TheVariants.{Write}
use Rattle.cq_report.specs.Live.{OutOfMemory}
use Rattle.cq_report.specs.Machine.{State, counted, numbered}
use Rattle.cq_report.specs.Steps.Turns.{TurnRecord, turn_bytes}
use Rattle.cq_report.specs.Steps.Written.{Breaks, Puts}
use Rattle.cq_report.proofs.script.Script.starve.Goals as goal

pub returns-in_err-put_reply-in-Live-clause-err : goal.returns-in_err-put_reply-in-Live-clause-err
returns-in_err-put_reply-in-Live-clause-err g c =
    let p = err_from_is_err_and c.from_residual-in_err-put_reply-in-Live.result c.from_residual-in_err-put_reply-in-Live.ensures.1 in
    let old = c.args.self.now in
    let put = λ (s : State) (turn : TurnRecord). numbered s.numbering s.lines (turn_bytes s.numbering turn) in
    rw (p.1, p.2) (λ line may. inr (λ all known. record {
      turn = OutOfMemory;
      is = (c.requires.heard, c.in-Live.is, may c.in-Live.is all known);
      breaks = subst (λ (bytes : List ℕ). Breaks g.W.Sink.taken g.W.Sink.write_failures c.args.output.now c.put_reply.new.self bytes Write)
          (ap (λ (s : State). put s c.plain-turn.result) c.self.view_is ∙ ap (put old) c.plain-turn.ensures) c.in_err-put_reply-in-Live.ensures.err;
    }))

pub returns-in_ok-put_reply-in-Live-clause-ok : goal.returns-in_ok-put_reply-in-Live-clause-ok
returns-in_ok-put_reply-in-Live-clause-ok g c = λ line may all known.
    let old = c.args.self.now in
    let put = λ (s : State) (turn : TurnRecord). numbered s.numbering s.lines (turn_bytes s.numbering turn) in
    record {
      turn = OutOfMemory;
      is = (c.requires.heard, c.in-Live.is, may c.in-Live.is all known);
      after = ap counted c.self.view_is;
      puts = subst (λ (bytes : List ℕ). Puts g.W.Sink.taken g.W.Sink.write_failures c.args.output.now c.put_reply.new.self bytes)
          (ap (λ (s : State). put s c.plain-turn.result) c.self.view_is ∙ ap (put old) c.plain-turn.ensures) c.in_ok-put_reply-in-Live.ensures.ok;
    }
