use Rattle.std.proofs.Common.{◌≡◌, refl, ap, subst, ◌∙◌}
use Rattle.cq_atom.specs.declared.edit.EditKind.TheVariants.{Withdraw}
use Rattle.cq_board.specs.Pool.{PoolRecord}
use Rattle.cq_board.specs.Edits.{edited}
use Rattle.cq_board.specs.Work.{lost, raised}
use Rattle.cq_board.specs.Steps.Stores.{pending_of}
use Rattle.cq_board.proofs.KeptIn.{pool_of, withdrawn_in}
use Rattle.cq_board.proofs.board.Board.withdraw.Goals as goal

pub invariant_of-self : goal.invariant_of-self
invariant_of-self g c =
    let rows = c.self.inside.tables.rows in
    withdrawn_in c.self.inside.limits c.self.inside.tables c.self.inside.stores c.withdraw.new.self c.self.invariant c.args.name.now
    (c.withdraw.ensures.stores rows c.self.invariant.stores) (c.withdraw.ensures.left rows c.self.invariant.stores)

pub returns-clause-ok : goal.returns-clause-ok
returns-clause-ok g c =
    let left = c.withdraw.ensures.left c.self.inside.tables.rows c.self.invariant.stores in
    (λ i. pool_of c.self.inside.limits c.self.inside.tables (left i)) ∙ ap (λ (p : PoolRecord). edited p (Withdraw c.args.name.now)) c.self.view_is

pub returns-clause-changes : goal.returns-clause-changes
returns-clause-changes g c =
    subst (λ (p : PoolRecord). c.withdraw.new.changes ≡ raised c.args.work.now.changes (lost p (edited p (Withdraw c.args.name.now)))) c.self.view_is
    (c.withdraw.ensures.changes (pool_of c.self.inside.limits c.self.inside.tables (pending_of c.self.inside.stores)) refl c.self.invariant.stores)
