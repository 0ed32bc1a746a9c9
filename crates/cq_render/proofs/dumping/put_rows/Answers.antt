use Rattle.std.proofs.Common.{◌+◌, drop, ap, subst, arith}
use Rattle.std.specs.Prelude.{string_bytes}
use Rattle.std.specs.List.{All, flat_map}
use Rattle.cq_text.specs.Sound.{IsSoundCommand}
use Rattle.cq_render.specs.Dump.{command_line}
use Rattle.cq_render.specs.Steps.Dumping.{insert_command}
use Rattle.std.proofs.lemmas.List.{take_all}
use Rattle.std.proofs.lemmas.List.Elements.{All-more}
use Rattle.cq_render.proofs.Pieces.{pieces_at, read_at, nothing_left}
use Rattle.cq_render.proofs.Pages.{put_on, put_end}
use Rattle.cq_render.proofs.dumping.put_rows.Goals as goal

pub loop-row-preserved : goal.loop-row-preserved
loop-row-preserved g c =
    let i = c.loop-row.row-index in
    let rows = c.args.rows.now in
    let row = c.row-item.result in
    record {
      sound = All-more (λ row. IsSoundCommand (insert_command row.now)) rows i row c.loop-row-test.true c.loop-row.invariant.sound (subst (λ row. IsSoundCommand (insert_command row.now)) c.row-item.is c.in_ok-put_row.ensures.sound);
      printed = put_on (string_bytes c.loop-row.script) (string_bytes c.put_row.new.script) (command_line (insert_command row.now)) _ (flat_map (λ row. command_line (insert_command row.now)) (drop (i + 1) rows)) _
          (pieces_at (λ row. command_line (insert_command row.now)) rows i row (read_at rows i row c.loop-row-test.true c.row-item.is)) c.loop-row.invariant.printed c.in_ok-put_row.ensures.printed;
    }

pub returns-clause-printed : goal.returns-clause-printed
returns-clause-printed g c =
    let rows = c.args.rows.now in
    put_end (string_bytes c.loop-row.script) (flat_map (λ row. command_line (insert_command row.now)) (drop c.loop-row.row-index rows)) _
    (ap (flat_map (λ row. command_line (insert_command row.now))) (nothing_left rows c.loop-row.row-index (omega arith))) c.loop-row.invariant.printed

pub returns-clause-sound : goal.returns-clause-sound
returns-clause-sound g c = subst (λ rows. All (λ row. IsSoundCommand (insert_command row.now)) rows) (take_all c.loop-row.row-index c.args.rows.now c.loop-row-test.false) c.loop-row.invariant.sound
