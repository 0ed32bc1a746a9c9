use Rattle.std.proofs.Common.{subst}
use Rattle.std.specs.Prelude.{string_bytes}
use Rattle.cq_board.specs.Choice.{ChoiceRecord}
use Rattle.cq_cli.specs.Noted.{IsNoted}
use Rattle.cq_render.proofs.Explained.{pieces_step}
use Rattle.cq_cli.proofs.noting.put_notes.Goals as goal

pub loop-choice-preserved : goal.loop-choice-preserved
loop-choice-preserved g c empty =
    let put = c.in_ok-put_note.ensures in
    let choice = c.choice-item.result in
    pieces_step (IsNoted c.args.board.now) c.args.choices.now c.loop-choice.choice-index choice (string_bytes c.loop-choice.page) _ put.0 c.loop-choice-test.true (c.loop-choice.invariant empty)
    (subst (λ (x : ChoiceRecord). IsNoted c.args.board.now x put.0) c.choice-item.is put.1) put.2
