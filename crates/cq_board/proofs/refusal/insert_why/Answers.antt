use Rattle.std.proofs.Common.{Bool, ap, ◌∙◌}
use Rattle.std.specs.Bool.{then_some}
use Rattle.cq_rel.specs.Tables.{has_row}
use Rattle.cq_board.specs.declared.edit.Why.TheVariants.{RowPresent}
use Rattle.cq_board.specs.Edits.{row_why}
use Rattle.cq_board.proofs.Refusals.{told-if}
use Rattle.cq_board.proofs.refusal.insert_why.Goals as goal

pub returns : goal.returns
returns g c =
    let row = c.args.row.now in
    let tables = c.args.tables.now in
    c.row_why.ensures
    ∙ ap (row_why tables row) (c.then_some.ensures ∙ ap (λ (b : Bool). then_some b RowPresent) c.has.ensures.value ∙ told-if (has_row tables row) RowPresent)
