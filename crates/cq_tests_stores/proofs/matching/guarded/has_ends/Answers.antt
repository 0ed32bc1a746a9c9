use Rattle.cq_tests_stores.proofs.matching.guarded.has_ends.Goals as goal

pub returns-then-is_provided : goal.returns-then-is_provided
returns-then-is_provided g c = λ awaited all able. (c.is_provided.ensures c.if-is_provided.true c.args.count able, c.is_awaited.ensures awaited all able)
