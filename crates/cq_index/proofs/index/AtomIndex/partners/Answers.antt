use Rattle.std.proofs.Common.{◌≡◌, length, nat_eq, refl, sym, ap, subst, ◌∙◌, arith}
use Rattle.std.proofs.lemmas.Result.{IfOk-from_err}
use Rattle.std.specs.List.{list_any}
use Rattle.std.specs.List.Sorted.{IsStrictlySortedBy}
use Rattle.std.specs.Ordering.{nat_cmp}
use Rattle.cq_index.specs.Index.{IsPartnerAt, candidates_of}
use Rattle.cq_index.proofs.Counted.{counted-all, counts-up, counts-within, counts-upto, ticks-up, ticks-upto, fits-low}
use Rattle.cq_index.proofs.Picked.{picked_exact, picked_increase, picks_pushed, picks_passed, picks_end}
use Rattle.cq_index.proofs.Listed.{candidates_rising}
use Rattle.cq_index.proofs.Partners.{partner_is_candidate, some_at, passed_over}
use Rattle.cq_index.proofs.index.AtomIndex.partners.Goals.{then-unifies_at+in_ok-push, else-unifies_at}
use Rattle.cq_index.proofs.index.AtomIndex.partners.Goals as goal

pub loop-place-init : goal.loop-place-init
loop-place-init g c = record {
  counted = (let fits = c.count-counted.type_inv in omega (arith, c.count-counted.ensures));
  picks = λ rest h. rw c.new-partners.ensures.items h;
}

pub unifies_at-requires : goal.unifies_at-requires
unifies_at-requires g c = some_at c.args.self.now c.args.atom.now c.deref-place-items.result.now c.loop-place.place-index c.loop-place-test.true
    (rw c.deref-place-items.ensures.value c.in_ok-candidates.ensures.exact)

pub loop-place-preserved : goal.loop-place-preserved
loop-place-preserved g c = record {
  counted = omega (arith, c.unifies_at.ensures.ticks, c.loop-place.invariant.counted);
  picks = elim c.if-unifies_at.branch [
    | then-unifies_at+in_ok-push w ↦ picks_pushed (IsPartnerAt c.args.self.now c.args.atom.now) c.deref-place-items.result.now c.loop-place.place-index c.loop-place.partners.items c.if-unifies_at.partners.items
        c.loop-place-test.true (ap (λ v. v.items) w.partners-is ∙ w.in_ok-push.ensures.items) (c.unifies_at.ensures.unifies.0 w.if-unifies_at.true) c.loop-place.invariant.picks
    | else-unifies_at w ↦ picks_passed (IsPartnerAt c.args.self.now c.args.atom.now) c.deref-place-items.result.now c.loop-place.place-index c.loop-place.partners.items c.if-unifies_at.partners.items
        c.loop-place-test.true (ap (λ v. v.items) w.partners-is) (passed_over c.unifies_at.result c.unifies_at.ensures.unifies w.if-unifies_at.false) c.loop-place.invariant.picks
  ];
}

pub returns-clause-exact : goal.returns-clause-exact
returns-clause-exact g c =
    let listed : c.deref-place-items.result.now ≡ candidates_of c.args.self.now c.args.atom.now = c.deref-place-items.ensures.value ∙ c.in_ok-candidates.ensures.listed in
    picked_exact (IsPartnerAt c.args.self.now c.args.atom.now) c.deref-place-items.result.now c.loop-place.partners.items
    (picks_end (IsPartnerAt c.args.self.now c.args.atom.now) c.deref-place-items.result.now c.loop-place.place-index c.loop-place.partners.items c.loop-place-test.false c.loop-place.invariant.picks)
    (λ p is. ap (list_any (nat_eq p)) listed ∙ partner_is_candidate c.args.self.now c.args.atom.now p is)

pub returns-clause-rising : goal.returns-clause-rising
returns-clause-rising g c =
    let listed : c.deref-place-items.result.now ≡ candidates_of c.args.self.now c.args.atom.now = c.deref-place-items.ensures.value ∙ c.in_ok-candidates.ensures.listed in
    picked_increase (IsPartnerAt c.args.self.now c.args.atom.now) c.deref-place-items.result.now c.loop-place.partners.items
    (picks_end (IsPartnerAt c.args.self.now c.args.atom.now) c.deref-place-items.result.now c.loop-place.place-index c.loop-place.partners.items c.loop-place-test.false c.loop-place.invariant.picks)
    (subst (IsStrictlySortedBy nat_cmp) (sym listed) (candidates_rising c.args.self.now c.args.atom.now))

pub returns-in_err-candidates-clause-exact : goal.returns-in_err-candidates-clause-exact
returns-in_err-candidates-clause-exact g c = IfOk-from_err c.from_residual.result _ c.from_residual.ensures.0

pub returns-in_err-candidates-clause-rising : goal.returns-in_err-candidates-clause-rising
returns-in_err-candidates-clause-rising g c = IfOk-from_err c.from_residual.result _ c.from_residual.ensures.0

pub returns-in_err-candidates-clause-ticks : goal.returns-in_err-candidates-clause-ticks
returns-in_err-candidates-clause-ticks g c = IfOk-from_err c.from_residual.result _ c.from_residual.ensures.0

pub returns-in_err-candidates-clause-at_most : goal.returns-in_err-candidates-clause-at_most
returns-in_err-candidates-clause-at_most g c =
    let meter = c.args.meter.now in
    counts-within meter meter (length (candidates_of c.args.self.now c.args.atom.now)) 18446744073709551615 (fits-low c.count-counted.result meter c.count-counted.type_inv c.count-counted.ensures) refl

pub returns-in_err-push-clause-exact : goal.returns-in_err-push-clause-exact
returns-in_err-push-clause-exact g c = IfOk-from_err c.from_residual-in_err-push.result _ c.from_residual-in_err-push.ensures.0

pub returns-in_err-push-clause-rising : goal.returns-in_err-push-clause-rising
returns-in_err-push-clause-rising g c = IfOk-from_err c.from_residual-in_err-push.result _ c.from_residual-in_err-push.ensures.0

pub returns-in_err-push-clause-ticks : goal.returns-in_err-push-clause-ticks
returns-in_err-push-clause-ticks g c = IfOk-from_err c.from_residual-in_err-push.result _ c.from_residual-in_err-push.ensures.0

pub returns-in_err-push-clause-rises : goal.returns-in_err-push-clause-rises
returns-in_err-push-clause-rises g c =
    let meter = c.args.meter.now in
    ticks-up meter c.loop-place.meter c.unifies_at.new.meter c.loop-place.place-index 18446744073709551615 (fits-low c.count-counted.result meter c.count-counted.type_inv c.count-counted.ensures)
    c.loop-place.invariant.counted c.unifies_at.ensures.ticks

pub returns-in_err-push-clause-at_most : goal.returns-in_err-push-clause-at_most
returns-in_err-push-clause-at_most g c =
    ticks-upto c.args.meter.now c.loop-place.meter c.unifies_at.new.meter c.loop-place.place-index 18446744073709551615 c.deref-place-items.result.now (candidates_of c.args.self.now c.args.atom.now)
    c.loop-place.invariant.counted c.unifies_at.ensures.ticks c.loop-place-test.true (c.deref-place-items.ensures.value ∙ c.in_ok-candidates.ensures.listed)

pub returns-clause-ticks : goal.returns-clause-ticks
returns-clause-ticks g c =
    counted-all c.args.meter.now c.loop-place.meter c.loop-place.place-index 18446744073709551615 c.deref-place-items.result.now (candidates_of c.args.self.now c.args.atom.now)
    c.loop-place.invariant.counted c.loop-place.auto.place-index-end c.loop-place-test.false (c.deref-place-items.ensures.value ∙ c.in_ok-candidates.ensures.listed)

pub returns-clause-rises : goal.returns-clause-rises
returns-clause-rises g c =
    let meter = c.args.meter.now in
    counts-up meter c.loop-place.meter c.loop-place.place-index 18446744073709551615 (fits-low c.count-counted.result meter c.count-counted.type_inv c.count-counted.ensures) c.loop-place.invariant.counted

pub returns-clause-at_most : goal.returns-clause-at_most
returns-clause-at_most g c =
    counts-upto c.args.meter.now c.loop-place.meter c.loop-place.place-index 18446744073709551615 c.deref-place-items.result.now (candidates_of c.args.self.now c.args.atom.now)
    c.loop-place.invariant.counted c.loop-place.auto.place-index-end (c.deref-place-items.ensures.value ∙ c.in_ok-candidates.ensures.listed)
