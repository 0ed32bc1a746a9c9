use Rattle.std.proofs.Common.{◌∙◌}
use Rattle.cq_blocks.specs.Blocks.{elements}
use Rattle.std.proofs.lemmas.Result.{err_from_is_err_and}
use Rattle.cq_rel.proofs.Copied.{copied, table-copied}
use Rattle.cq_rel.proofs.table.TableClone.clone.Goals as goal

pub returns-in_err-clone : goal.returns-in_err-clone
returns-in_err-clone g c = let p = err_from_is_err_and c.from_residual.result c.from_residual.ensures.1 in rw p.1 (record { cases = λ h. h })

pub returns-in_err-clone-2 : goal.returns-in_err-clone-2
returns-in_err-clone-2 g c =
    let p = err_from_is_err_and c.from_residual-in_err-clone-2.result c.from_residual-in_err-clone-2.ensures.1 in rw p.1 (record { cases = λ h. h })

pub invariant_of-result : goal.invariant_of-result
invariant_of-result g c =
    let rows = elements c.self.inside.rows in
    let rows' = elements c.in_ok-clone.field-0 in
    table-copied rows rows' c.self.inside.columns.items c.in_ok-clone-2.field-0.items (copied rows rows' c.in_ok-clone.ensures.cases)
    (copied c.self.inside.columns.items c.in_ok-clone-2.field-0.items c.in_ok-clone-2.ensures.cases.0) c.self.invariant

pub returns : goal.returns
returns g c = record { cases = copied (elements c.self.inside.rows) (elements c.in_ok-clone.field-0) c.in_ok-clone.ensures.cases ∙ c.self.view_is }
