use Rattle.std.proofs.Common.{◌≡◌, length, ap, sym, arith, Ok}
use Rattle.cq_atom.specs.declared.fault.Bad.{Bad}
use Rattle.cq_atom.specs.Atom.{RowRecord, arity_fault}
use Rattle.cq_text.specs.Steps.Lists.{row_record}
use Rattle.cq_text.proofs.Made.{made, not_made, well_named}
use Rattle.cq_text.proofs.reading.lists.new_row.Goals as goal

pub returns-in-Ok : goal.returns-in-Ok
returns-in-Ok g c =
    let relation = c.args.relation.now in
    let values = c.args.values.items in
    ap (λ (row : RowRecord). Ok row) (sym (made (row_record relation values) (arity_fault relation (length values)) c.in-Ok.row (well_named relation (length values) c.requires.name c.requires.arity) c.in-Ok.ensures))

pub unreachable-requires : goal.unreachable-requires
unreachable-requires g c =
    let relation = c.args.relation.now in
    let values = c.args.values.items in
    let only : c.in-Err.field-0 ≡ Bad.NoMemory = not_made (row_record relation values) (arity_fault relation (length values)) c.in-Err.field-0 (well_named relation (length values) c.requires.name c.requires.arity) c.in-Err.ensures in
    grind arith
