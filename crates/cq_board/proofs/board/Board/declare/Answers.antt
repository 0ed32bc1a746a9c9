use Rattle.std.proofs.Common.{◌≡◌, false, ap, ◌∙◌}
use Rattle.cq_rel.specs.Tables.{declaration, declare_fault}
use Rattle.cq_board.specs.Pool.{PoolRecord}
use Rattle.cq_board.specs.Setup.{is_used}
use Rattle.cq_board.specs.Steps.Stores.{pending_of}
use Rattle.cq_board.proofs.Setups.{declared_kept, free}
use Rattle.cq_board.proofs.board.Board.declare.Goals as goal

pub invariant_of-self : goal.invariant_of-self
invariant_of-self g c =
    let pool = c.args.self.now in
    let relation = c.args.relation.now in
    let unused : is_used relation (pending_of c.self.inside.stores) ≡ false =
    ap (λ (p : PoolRecord). is_used relation p.pending) c.self.view_is ∙ free (declare_fault pool.tables.catalog relation c.args.arity) (is_used relation pool.pending) c.in_default.ensures in
    declared_kept c.self.inside.limits c.self.inside.tables c.self.inside.stores c.self.invariant (declaration relation c.args.arity) c.in_ok-tables.tables c.catalog-good.ensures.valid c.in_ok-tables.ensures unused
