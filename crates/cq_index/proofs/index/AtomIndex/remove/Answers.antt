use Rattle.cq_index.proofs.Views.{present_at, view_removed}
use Rattle.cq_index.proofs.index.AtomIndex.remove.Goals as goal

pub forget-requires-clause-present : goal.forget-requires-clause-present
forget-requires-clause-present g c = present_at c.self.inside.kept.entries c.args.self.now c.args.place c.self.view_is c.args.atom.now c.requires

pub returns : goal.returns
returns g c = view_removed c.self.inside.kept.entries c.forget.new.places.entries c.args.self.now c.args.place c.self.view_is c.forget.ensures.out
