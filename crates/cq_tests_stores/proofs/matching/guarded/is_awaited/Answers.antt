use Rattle.std.proofs.Common.{rules, sym, ◌∙◌}
use Rattle.std.specs.List.{slice_index}
use Rattle.cq_match.proofs.CallerLemmas.{takes-beside}
use Rattle.cq_tests_stores.proofs.matching.guarded.is_awaited.Goals as goal

pub returns-then-has : goal.returns-then-has
returns-then-has g c = λ low all able.
    takes-beside (slice_index c.args.posts.now) (c.args.node, c.args.count, able) c.args.matcher.now.nodes c.args.edge.waiter c.args.edge.post all (sym c.has.ensures ∙ c.if-has.true) (search rules)
