use Rattle.std.proofs.Common.{false}
use Rattle.cq_tests_stores.proofs.Kept.{kept-flag}
use Rattle.cq_tests_stores.proofs.matching.guarded.Guarded.disable.Goals as goal

pub invariant_of-self : goal.invariant_of-self
invariant_of-self g c = kept-flag c.self.inside.posts.items c.self.inside.matcher.nodes c.disable.new.self.nodes c.args.node false c.disable.ensures.nodes c.self.invariant
