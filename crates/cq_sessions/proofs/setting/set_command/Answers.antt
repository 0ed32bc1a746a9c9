use Rattle.std.proofs.Common.{sym, subst}
use Rattle.cq_text.specs.Grammar.{CommandContent}
use Rattle.cq_report.specs.Reading.{Reads}
use Rattle.cq_sessions.specs.Steps.Settings.{Sets}
use Rattle.cq_sessions.proofs.setting.set_command.Goals as goal

pub returns-in_ok-set_up-in-Setup : goal.returns-in_ok-set_up-in-Setup
returns-in_ok-set_up-in-Setup g c =
    subst (λ (command : CommandContent). Sets c.args.heading c.args.setup.now c.args.sheet.now c.set_up.new.setup c.set_up.new.sheet (Reads command)) (sym c.in-Setup.is) c.in_ok-set_up-in-Setup.ensures
