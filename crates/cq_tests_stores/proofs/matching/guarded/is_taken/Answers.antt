use Rattle.cq_tests_stores.proofs.matching.guarded.is_taken.Goals as goal

pub returns-then-touches : goal.returns-then-touches
returns-then-touches g c = λ ends all. (c.touches.ensures c.if-touches.true, c.has_ends.ensures ends all)
