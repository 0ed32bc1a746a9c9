use Rattle.cq_tests_stores.proofs.matching.reasons.fall_backwards.Goals as goal

pub falling-requires-clause-ends : goal.falling-requires-clause-ends
falling-requires-clause-ends g c = c.are_within.ensures c.if-not-are_within.false (c.are_numbered.ensures.numbered c.if-not-are_numbered.false)
