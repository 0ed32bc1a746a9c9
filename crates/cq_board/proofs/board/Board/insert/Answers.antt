use Rattle.std.proofs.Common.{◌≡◌}
use Rattle.cq_grounded.specs.Grounded as grounded
use Rattle.cq_board.specs.Work.{named, raised}
use Rattle.cq_board.proofs.Stored.{ok-map}
use Rattle.cq_board.proofs.WorkStores.{visits-seen}
use Rattle.cq_board.proofs.RowsIn.{inserted_in, inserted_seen, refused_seen}
use Rattle.cq_board.proofs.board.Board.insert.Goals as goal

pub invariant_of-self : goal.invariant_of-self
invariant_of-self g c =
    let old = c.self.inside.stores in
    let new = c.insert.new.stores in
    inserted_in c.self.inside.limits c.self.inside.tables c.insert.new.tables old new c.self.invariant c.args.self.now
    c.args.row.now c.self.view_is c.insert.ensures.stores c.insert.ensures.residents c.insert.result c.requires c.insert.ensures.ok c.insert.ensures.err

pub returns-clause-ok : goal.returns-clause-ok
returns-clause-ok g c =
    let old = c.self.inside.stores in
    let new = c.insert.new.stores in
    inserted_seen c.self.inside.limits c.self.inside.tables c.insert.new.tables old new c.self.invariant c.args.self.now
    c.args.row.now c.self.view_is c.insert.ensures.stores c.insert.ensures.residents c.insert.result c.insert.ensures.ok

pub returns-clause-err : goal.returns-clause-err
returns-clause-err g c =
    let old = c.self.inside.stores in
    let new = c.insert.new.stores in
    refused_seen c.self.inside.limits c.self.inside.tables c.insert.new.tables old new c.self.invariant c.args.self.now
    c.args.row.now c.self.view_is c.insert.ensures.stores c.insert.ensures.residents c.insert.result c.insert.ensures.err

pub returns-clause-visits : goal.returns-clause-visits
returns-clause-visits g c =
    let old = c.self.inside.stores in
    let relation = c.args.row.now.relation in
    ok-map c.insert.result (c.insert.new.visits ≡ raised c.args.work.now.visits (grounded.named old.grounded relation)) (c.insert.new.visits ≡ raised c.args.work.now.visits (named c.args.self.now.pending relation)) c.insert.ensures.ticks
    (visits-seen c.self.inside.limits c.self.inside.tables old c.self.invariant c.args.self.now c.self.view_is c.args.row.now.relation c.args.work.now.visits c.insert.new.visits)
