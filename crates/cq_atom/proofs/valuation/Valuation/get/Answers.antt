use Rattle.std.proofs.Common.{◌∙◌, ap, sym, bytes_eq}
use Rattle.cq_atom.specs.Valuation.{Bindings, value_at}
use Rattle.cq_atom.proofs.Onward.{value-here, value-later, value-past}
use Rattle.cq_atom.proofs.valuation.Valuation.get.Goals as goal

pub loop-bound-init : goal.loop-bound-init
loop-bound-init g c = ap (λ (v : Bindings). value_at v c.args.name.now) (sym (c.deref-bound-items.ensures.value ∙ c.self.view_is))

pub loop-bound-preserved : goal.loop-bound-preserved
loop-bound-preserved g c =
    let name = c.args.name.now in
    value-later name c.deref-bound-items.result.now c.loop-bound.bound-index (value_at c.args.self.now name) c.loop-bound-item.result c.loop-bound-test.true c.loop-bound-item.is
    (ap (bytes_eq name) (sym c.as_str.ensures.bytes) ∙ sym c.eq.ensures ∙ c.if-eq.false) c.loop-bound.invariant

pub returns-then-eq : goal.returns-then-eq
returns-then-eq g c =
    let name = c.args.name.now in
    value-here name c.deref-bound-items.result.now c.loop-bound.bound-index (value_at c.args.self.now name) c.loop-bound-item.result c.loop-bound-test.true c.loop-bound-item.is
    (ap (bytes_eq name) (sym c.as_str.ensures.bytes) ∙ sym c.eq.ensures ∙ c.if-eq.true) c.loop-bound.invariant

pub returns : goal.returns
returns g c =
    let name = c.args.name.now in
    value-past name c.deref-bound-items.result.now c.loop-bound.bound-index (value_at c.args.self.now name) c.loop-bound-test.false c.loop-bound.invariant
