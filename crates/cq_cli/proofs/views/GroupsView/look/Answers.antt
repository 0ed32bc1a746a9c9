use Rattle.std.proofs.Common.{subst, sym}
use Rattle.std.specs.Prelude.{string_bytes}
use Rattle.cq_going.specs.Grouping.{AreGroupsTold}
use Rattle.cq_report.specs.Machine.{shown}
use Rattle.cq_cli.proofs.views.GroupsView.look.Goals as goal

pub returns-clause-seen : goal.returns-clause-seen
returns-clause-seen g c =
    let told = subst (λ pool. AreGroupsTold pool (string_bytes c.in_ok-text.text)) c.board.ensures c.in_ok-text.ensures in
    (c.done.ensures.0, subst (AreGroupsTold (shown c.args.script.now.floor)) (sym c.done.ensures.1) told, c.done.ensures.2)
