use Rattle.std.proofs.Common.{◌≡◌, ℕ, subst, ◌∙◌}
use Rattle.cq_match.specs.Matcher as matcher
use Rattle.cq_atom.specs.declared.edit.EditKind.TheVariants.{Delete}
use Rattle.cq_board.specs.Edits.{edited}
use Rattle.cq_board.specs.Work.{lost, raised}
use Rattle.cq_board.proofs.WorkLost.{lost-brought}
use Rattle.cq_board.proofs.WorkStores.{visits-seen}
use Rattle.cq_board.proofs.RowsIn.{deleted_in, deleted_seen}
use Rattle.cq_board.proofs.board.Board.delete.Goals as goal

pub invariant_of-self : goal.invariant_of-self
invariant_of-self g c =
    let old = c.self.inside.stores in
    let new = c.delete.new.stores in
    deleted_in c.self.inside.limits c.self.inside.tables c.delete.new.tables old new c.self.invariant c.args.self.now
    c.args.row.now c.self.view_is c.delete.ensures.stores c.delete.ensures.residents c.requires c.delete.ensures.rows

pub returns-clause-ok : goal.returns-clause-ok
returns-clause-ok g c =
    let old = c.self.inside.stores in
    let new = c.delete.new.stores in
    deleted_seen c.self.inside.limits c.self.inside.tables c.delete.new.tables old new c.self.invariant c.args.self.now
    c.args.row.now c.self.view_is c.delete.ensures.stores c.delete.ensures.residents c.delete.ensures.rows

pub returns-clause-visits : goal.returns-clause-visits
returns-clause-visits g c =
    let old = c.self.inside.stores in
    visits-seen c.self.inside.limits c.self.inside.tables old c.self.invariant c.args.self.now c.self.view_is c.args.row.now.relation c.args.work.now.visits c.delete.new.visits c.delete.ensures.ticks

pub returns-clause-changes : goal.returns-clause-changes
returns-clause-changes g c =
    let old = c.self.inside.stores in
    let new = c.delete.new.stores in
    let limits = c.self.inside.limits in
    let tables = c.self.inside.tables in
    let left = deleted_seen limits tables c.delete.new.tables old new c.self.invariant c.args.self.now
    c.args.row.now c.self.view_is c.delete.ensures.stores c.delete.ensures.residents c.delete.ensures.rows in
    let count : matcher.lost old.matcher new.matcher ≡ lost c.args.self.now (edited c.args.self.now (Delete c.args.row.now)) =
    lost-brought limits tables c.delete.new.tables old new c.self.invariant.stores c.delete.ensures.stores c.delete.ensures.residents
    ∙ (λ i. lost (c.self.view_is i) (left i)) in
    subst (λ (n : ℕ). c.delete.new.changes ≡ raised c.args.work.now.changes n) count c.delete.ensures.counted
