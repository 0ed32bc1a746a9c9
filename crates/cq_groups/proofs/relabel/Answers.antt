use Rattle.std.proofs.Common.{get_or, arith}
use Rattle.std.proofs.lemmas.List.{get_or_default}
use Rattle.std.proofs.lemmas.List.Edits.{map_over_more}
use Rattle.cq_groups.specs.Steps.Labels.{renamed}
use Rattle.cq_groups.proofs.relabel.Goals as goal

pub loop-label-preserved : goal.loop-label-preserved
loop-label-preserved c =
    let ys = c.loop-label.labels in
    let i = c.loop-label.label-index in
    let x = get_or ys i 0 in
    rw c.renamed.ensures (map_over_more (renamed c.args.from c.args.to) c.args.labels.now ys i x c.loop-label-test.true c.loop-label.invariant (get_or_default ys i 0 x (omega arith)))
