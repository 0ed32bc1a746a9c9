use Rattle.std.proofs.Common.{rules}
use Rattle.cq_match.proofs.CallerLemmas.{has-number-beside}
use Rattle.cq_tests_stores.proofs.matching.guarded.is_provided.Goals as goal

pub returns-else-edge-node : goal.returns-else-edge-node
returns-else-edge-node g c = λ there count able. has-number-beside (c.args.node, count, able) c.args.matcher.now.nodes c.args.edge.provider (search rules)
