use Rattle.std.specs.Prelude.{string_bytes}
use Rattle.cq_cli.proofs.AbsentNames.{absent_next}
use Rattle.cq_cli.proofs.absent.put_absent.Goals as goal

pub loop-name-preserved : goal.loop-name-preserved
loop-name-preserved g c empty =
    absent_next c.args.board.now (λ name. name.now) c.args.names.now c.loop-name.name-index _ (string_bytes c.loop-name.page) _
    c.loop-name-test.true (c.loop-name.invariant empty) c.in_ok-put_if_absent.ensures
