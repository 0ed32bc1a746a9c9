use Rattle.std.proofs.Common.{◌∙◌}
use Rattle.cq_atom.specs.Valuation.{term_under}
use Rattle.cq_atom.proofs.Upto.{made-more, made-all}
use Rattle.cq_atom.proofs.valuation.terms_under.Goals as goal

pub loop-term-init : goal.loop-term-init
loop-term-init g c = c.in_ok-made.ensures.items

pub loop-term-preserved : goal.loop-term-preserved
loop-term-preserved g c =
    made-more (term_under c.args.valuation.now) c.args.terms.now c.loop-term.term-index c.term-item.result c.loop-term.made.items c.push.new.self.items c.in_ok-under.field-0
    c.loop-term-test.true c.term-item.is c.loop-term.invariant c.in_ok-push.ensures.items c.in_ok-under.ensures

pub returns : goal.returns
returns g c = c.loop-term.invariant ∙ made-all (term_under c.args.valuation.now) c.args.terms.now c.loop-term.term-index c.loop-term-test.false
