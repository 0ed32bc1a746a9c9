use Rattle.std.proofs.Common.{map, take}
use Rattle.cq_render.specs.Explain.{ArePieces}
use Rattle.cq_why.specs.Why.{IsTried}
use Rattle.cq_why.proofs.samples.expected.Given as goal

-- the words are those of the samples so far that may stand there
abbrev pub invariant-loop-sample : goal.invariant-loop-sample
invariant-loop-sample g l = ArePieces (IsTried l.form l.front) (map (λ sample. (sample.0.now, sample.1.now)) (take l.sample-index l.samples)) (map (λ word. word.now) l.words.items)
