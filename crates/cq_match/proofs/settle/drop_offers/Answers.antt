use Rattle.std.proofs.Common.{◌≡◌, ◌+◌, ◌-◌, ◌<◌, inl, ◌++◌, ◌∷◌, [], get_or, length, vec_len, arith, refl, sym, ap, ◌∙◌, count_by}
use Rattle.std.proofs.lemmas.List.{get_or-set_same, drop_all}
use Rattle.std.proofs.lemmas.List.Elements.{Contains-append_left, Contains-get_or}
use Rattle.cq_match.specs.declared.settle.Offer.{Offer}
use Rattle.cq_match.proofs.Dropping.{counts-some, lowered-more, each-emptied, each-left, only-left, only-emptied, sum-lowered}
use Rattle.cq_match.proofs.settle.drop_offers.Goals as goal
use Rattle.std.proofs.lemmas.Result.{IfOk-from_err}
use Rattle.cq_match.specs.Steps.Settle.{is_into}
use Rattle.cq_match.proofs.settle.drop_offers.Goals.{then-counts-offer-eq0+in_ok-push, else-counts-offer-eq0}

pub loop-offer-init : goal.loop-offer-init
loop-offer-init g c = record {
  lowered = λ slot. refl;
  each = λ slot low zero. inl zero;
  kept = λ place w. w;
  only = λ k d low. inl (Contains-get_or c.args.waiting.now.items k d low);
  fewer = omega arith;
}

pub loop-offer-preserved : goal.loop-offer-preserved
loop-offer-preserved g c =
    let offers = c.args.offers.now in
    let i = c.loop-offer.offer-index in
    let none : Offer = record { provider = 0; slot = 0 } in
    let k = (get_or offers i none).slot in
    let start = c.args.counts.now in
    let counts = c.loop-offer.counts in
    let first = c.args.waiting.now.items in
    let before = c.loop-offer.waiting.items in
    let owners = c.args.owners.now in
    let m = get_or counts k 0 - 1 in
    let low : k < length owners = c.requires.low i none c.loop-offer-test.true in
    let inside : k < length counts = omega arith in
    let some = counts-some owners start counts offers i k none c.loop-offer-test.true refl low c.requires.counted c.loop-offer.invariant.lowered in
    let lowered = lowered-more owners start counts offers i k none c.loop-offer-test.true refl inside low c.requires.counted c.loop-offer.invariant.lowered in
    let left = get_or-set_same counts k m 0 inside in
    let total = sum-lowered counts k some inside in
    elim c.if-counts-offer-eq0.branch [
      | then-counts-offer-eq0+in_ok-push w ↦
          let zero : m ≡ 0 = sym left ∙ w.if-counts-offer-eq0.true in
          let now : c.if-counts-offer-eq0.waiting.items ≡ before ++ get_or owners k 0 ∷ [] = cc (w.waiting-is, w.in_ok-push.ensures.items) in
          record {
            lowered = lowered;
            each = rw now (each-emptied owners start counts before k m c.loop-offer.invariant.each);
            kept = λ place h. rw now (Contains-append_left before (get_or owners k 0 ∷ []) place (c.loop-offer.invariant.kept place h));
            only = rw now (only-emptied owners first counts before k m some inside low zero c.loop-offer.invariant.only);
            fewer = let grown : vec_len c.if-counts-offer-eq0.waiting ≡ vec_len c.loop-offer.waiting + 1 = ap vec_len w.waiting-is ∙ w.in_ok-push.ensures.len in omega arith;
          }
      | else-counts-offer-eq0 w ↦
          let more : m ≡ 0 → ⊥ = λ e. w.if-counts-offer-eq0.false (left ∙ e) in
          let now : c.if-counts-offer-eq0.waiting.items ≡ before = cc (w.waiting-is) in
          record {
            lowered = lowered;
            each = rw now (each-left owners start counts before k m inside more c.loop-offer.invariant.each);
            kept = rw now c.loop-offer.invariant.kept;
            only = rw now (only-left owners first counts before k m some c.loop-offer.invariant.only);
            fewer = let same : vec_len c.if-counts-offer-eq0.waiting ≡ vec_len c.loop-offer.waiting = ap vec_len w.waiting-is in omega arith;
          }
    ]

pub returns-clause-lowered : goal.returns-clause-lowered
returns-clause-lowered g c slot =
    let none = ap (count_by (is_into slot)) (drop_all c.loop-offer.offer-index c.args.offers.now c.loop-offer-test.false) in
    let same = c.loop-offer.invariant.lowered slot in
    omega (arith, none, same)

pub returns-clause-each : goal.returns-clause-each
returns-clause-each g c = c.loop-offer.invariant.each

pub returns-clause-kept : goal.returns-clause-kept
returns-clause-kept g c = c.loop-offer.invariant.kept

pub returns-clause-only : goal.returns-clause-only
returns-clause-only g c = c.loop-offer.invariant.only

pub returns-clause-fewer : goal.returns-clause-fewer
returns-clause-fewer g c = c.loop-offer.invariant.fewer

pub returns-in_err-push-clause-lowered : goal.returns-in_err-push-clause-lowered
returns-in_err-push-clause-lowered g c = IfOk-from_err c.from_residual.result _ c.from_residual.ensures.0

pub returns-in_err-push-clause-each : goal.returns-in_err-push-clause-each
returns-in_err-push-clause-each g c = IfOk-from_err c.from_residual.result _ c.from_residual.ensures.0

pub returns-in_err-push-clause-kept : goal.returns-in_err-push-clause-kept
returns-in_err-push-clause-kept g c = IfOk-from_err c.from_residual.result _ c.from_residual.ensures.0

pub returns-in_err-push-clause-only : goal.returns-in_err-push-clause-only
returns-in_err-push-clause-only g c = IfOk-from_err c.from_residual.result _ c.from_residual.ensures.0

pub returns-in_err-push-clause-fewer : goal.returns-in_err-push-clause-fewer
returns-in_err-push-clause-fewer g c = IfOk-from_err c.from_residual.result _ c.from_residual.ensures.0

pub bounds-counts-offer : goal.bounds-counts-offer
bounds-counts-offer g c =
    let low = c.requires.low c.loop-offer.offer-index (record { provider = 0; slot = 0 }) c.loop-offer-test.true in
    omega (arith, low, c.loop-offer.auto.counts, c.requires.same_len)

pub bounds-owners-offer : goal.bounds-owners-offer
bounds-owners-offer g c = c.requires.low c.loop-offer.offer-index (record { provider = 0; slot = 0 }) c.loop-offer-test.true

pub overflow_sub-counts : goal.overflow_sub-counts
overflow_sub-counts g c =
    let offers = c.args.offers.now in
    let i = c.loop-offer.offer-index in
    let none : Offer = record { provider = 0; slot = 0 } in
    counts-some c.args.owners.now c.args.counts.now c.loop-offer.counts offers i (get_or offers i none).slot none c.loop-offer-test.true refl (c.requires.low i none c.loop-offer-test.true) c.requires.counted c.loop-offer.invariant.lowered

pub bounds-counts-offer-in-loop-offer : goal.bounds-counts-offer-in-loop-offer
bounds-counts-offer-in-loop-offer g c =
    let low = c.requires.low c.loop-offer.offer-index (record { provider = 0; slot = 0 }) c.loop-offer-test.true in
    omega (arith, low, c.loop-offer.auto.counts, c.requires.same_len)
