use Rattle.std.proofs.Common.{◌∙◌, List, map, ap, subst, arith}
use Rattle.std.proofs.lemmas.List.{take_all}
use Rattle.cq_render.specs.Explain.{ArePieces}
use Rattle.cq_render.proofs.Explained.{pieces_at}
use Rattle.cq_why.specs.Why.{Sample, IsTried, samples}
use Rattle.cq_why.proofs.samples.expected.Goals as goal

pub loop-sample-preserved : goal.loop-sample-preserved
loop-sample-preserved g c =
    let tried = c.in_ok-put_if_expected.ensures in
    pieces_at (IsTried c.args.form c.args.front.now) (λ s. (s.0.now, s.1.now)) c.samples-samples.result.now c.loop-sample.sample-index _ (map (λ word. word.now) c.loop-sample.words.items) _ tried.0
    (omega arith) c.loop-sample.invariant
    tried.1 tried.2

pub returns : goal.returns
returns g c =
    let words = map (λ word. word.now) c.loop-sample.words.items in
    subst (λ (ss : List Sample). ArePieces (IsTried c.args.form c.args.front.now) ss words) (ap (map (λ s. (s.0.now, s.1.now))) (take_all c.loop-sample.sample-index c.samples-samples.result.now (omega arith)) ∙ c.samples-samples.ensures ∙ ap samples c.is_first.ensures) c.loop-sample.invariant
