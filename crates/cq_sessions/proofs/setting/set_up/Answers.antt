use Rattle.std.proofs.lemmas.Result.{on_ok_weaker}
use Rattle.cq_sessions.proofs.Settings.{sets_up}
use Rattle.cq_sessions.proofs.setting.set_up.Goals as goal

pub returns : goal.returns
returns g c =
    on_ok_weaker c.tell.result
    (λ now. sets_up c.args.heading c.args.setup.now c.set_up.new.self c.args.sheet.now c.tell.new.self c.args.line.now c.in_ok-outcome.outcome c.in_ok-outcome.ensures.ok (rw (← c.in_ok-to_line.ensures) now))
    c.tell.ensures
