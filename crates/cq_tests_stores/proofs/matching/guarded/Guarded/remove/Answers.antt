use Rattle.cq_tests_stores.proofs.Kept.{kept-without}
use Rattle.cq_tests_stores.proofs.matching.guarded.Guarded.remove.Goals as goal

pub invariant_of-self : goal.invariant_of-self
invariant_of-self g c = kept-without c.self.inside.posts.items c.self.inside.matcher.nodes c.remove.new.self.nodes c.args.node c.remove.ensures.nodes c.self.invariant
