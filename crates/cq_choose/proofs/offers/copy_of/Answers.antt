use Rattle.std.proofs.Common.{◌∙◌}
use Rattle.std.proofs.lemmas.List.{take_all}
use Rattle.cq_choose.proofs.Onward.{copied-more}
use Rattle.cq_choose.proofs.offers.copy_of.Goals as goal

pub loop-value-preserved : goal.loop-value-preserved
loop-value-preserved g c =
    copied-more c.push.new.self.items c.loop-value.copy.items c.in_ok-copy-2.field-0 c.args.values.now c.loop-value.value-index c.value-item.result c.loop-value-test.true c.value-item.is c.in_ok-push.ensures.items c.loop-value.invariant c.in_ok-copy-2.ensures

pub returns : goal.returns
returns g c = c.loop-value.invariant ∙ take_all c.loop-value.value-index c.args.values.now c.loop-value-test.false
