use Rattle.std.proofs.Common.{refl, ◌∙◌}
use Rattle.std.proofs.lemmas.Result.{err_from_is_err_and}
use Rattle.cq_cli.specs.Views.{ToldOn, IsShown}
use Rattle.cq_cli.proofs.AbsentNames.{left_over}
use Rattle.cq_cli.proofs.Telling.{read_ends, answer_ends}
use Rattle.cq_cli.proofs.looking.show.Goals as goal

pub returns-clause-told : goal.returns-clause-told
returns-clause-told g c =
    left_over (g.R.Source.left c.args.source.now) (g.R.Source.left c.has_mark.new.self) c.in-Ok.is_marked c.in_ok-script.script
    (λ marked left. IsShown (g.V.View.tells c.args.view.now) c.args.origin.now marked left c.in_ok-status.status (g.W.Sink.taken c.args.sink.now) (g.W.Sink.taken c.write_seen.new.sink)
    (ToldOn (g.E.Sink.write_failures c.args.errors.now) (g.E.Sink.write_failures c.write_seen.new.errors) (g.E.Sink.taken c.args.errors.now) (g.E.Sink.taken c.write_seen.new.errors)))
    c.in-Ok.ensures.bytes c.in-Ok.ensures.mark c.in_ok-script.ensures.left c.in_ok-status.ensures.ok

pub returns-in_err-script-clause-failures : goal.returns-in_err-script-clause-failures
returns-in_err-script-clause-failures g c =
    let p = err_from_is_err_and c.from_residual.result c.from_residual.ensures.1 in
    let at = rw c.in-Ok.ensures.failures at (rw c.in-Ok.ensures.reads at c.in_err-script.ensures.turn) in
    let same = rw c.in-Ok.ensures.failures at c.in_err-script.ensures.read_failures in
    rw (p.1, p.2) (read_ends _ _ c.in_err-script.field-0.0 at same c.in_err-script.ensures.no_write refl)

pub returns-in_err-status-clause-failures : goal.returns-in_err-status-clause-failures
returns-in_err-status-clause-failures g c =
    let p = err_from_is_err_and c.from_residual-in_err-status.result c.from_residual-in_err-status.ensures.1 in
    rw (p.1, p.2) (answer_ends _ _ c.in_err-status.field-0.0 c.in_err-status.ensures.no_read (c.in_ok-script.ensures.read_failures ∙ c.in-Ok.ensures.failures) c.in_err-status.ensures.failures)
