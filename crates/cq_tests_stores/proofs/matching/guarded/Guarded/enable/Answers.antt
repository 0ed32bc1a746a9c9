use Rattle.std.proofs.Common.{true}
use Rattle.cq_tests_stores.proofs.Kept.{kept-flag}
use Rattle.cq_tests_stores.proofs.matching.guarded.Guarded.enable.Goals as goal

pub invariant_of-self-2 : goal.invariant_of-self-2
invariant_of-self-2 g c = kept-flag c.self.inside.posts.items c.self.inside.matcher.nodes c.enable.new.self.nodes c.args.node true c.in_ok-enable.ensures.nodes c.self.invariant
