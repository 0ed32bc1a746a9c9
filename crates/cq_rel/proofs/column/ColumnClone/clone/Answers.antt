use Rattle.std.proofs.Common.{List, ap, sym, subst, ◌∙◌}
use Rattle.std.specs.List.Sorted.{IsStrictlySortedBy}
use Rattle.cq_blocks.specs.Blocks.{elements}
use Rattle.cq_atom.specs.Atom.{RowRecord}
use Rattle.std.proofs.lemmas.Result.{err_from_is_err_and}
use Rattle.cq_rel.specs.Steps.Column.{ColumnRecord, by_column}
use Rattle.cq_rel.proofs.Copied.{copied}
use Rattle.cq_rel.proofs.column.ColumnClone.clone.Goals as goal

pub returns-in_err-clone : goal.returns-in_err-clone
returns-in_err-clone g c = let p = err_from_is_err_and c.from_residual.result c.from_residual.ensures.1 in rw p.1 (record { cases = λ h. h })

pub invariant_of-result : goal.invariant_of-result
invariant_of-result g c =
    subst (IsStrictlySortedBy (by_column c.self.inside.place)) (sym (copied (elements c.self.inside.rows) (elements c.in_ok-clone.field-0) c.in_ok-clone.ensures.cases)) c.self.invariant

pub returns : goal.returns
returns g c =
    let seen : List RowRecord → ColumnRecord = λ rows. record { place = c.self.inside.place; rows = rows } in
    record { cases = ap seen (copied (elements c.self.inside.rows) (elements c.in_ok-clone.field-0) c.in_ok-clone.ensures.cases) ∙ c.self.view_is }
