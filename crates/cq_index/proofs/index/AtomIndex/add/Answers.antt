use Rattle.cq_index.proofs.Changes.{on_ok}
use Rattle.cq_index.proofs.Views.{absent_at, view_inserted}
use Rattle.cq_index.proofs.index.AtomIndex.add.Goals as goal

pub keep-requires-clause-absent : goal.keep-requires-clause-absent
keep-requires-clause-absent g c = absent_at c.self.inside.kept.entries c.args.self.now c.args.place c.self.view_is c.requires

pub returns-clause-ok : goal.returns-clause-ok
returns-clause-ok g c = on_ok c.keep.result (view_inserted c.self.inside.kept.entries c.keep.new.places.entries c.args.self.now c.args.place c.args.atom.now c.self.view_is) c.keep.ensures.ok
