use Rattle.std.proofs.Common.{◌≡◌, ◌<◌, ◌≤◌, ℕ, length, sym, ap, ◌∙◌, subst, refl, true, false}
use Rattle.std.proofs.Math.ListN.{length-map}
use Rattle.std.proofs.lemmas.List.{take_all}
use Rattle.cq_atom.specs.Valuation.{term_under}
use Rattle.cq_board.specs.Choice.{bound}
use Rattle.cq_board.specs.Steps.Choices.{IsValid, AreValid}
use Rattle.cq_board.proofs.Walks.{same_at, same_more, same_end, each_more}
use Rattle.cq_board.proofs.choice.all_agree.Goals as goal

pub returns-then-not-terms_agree-clause-same : goal.returns-then-not-terms_agree-clause-same
returns-then-not-terms_agree-clause-same g c =
    let low = c.loop-i-test.true in
    let low' = subst (λ (n : ℕ). c.loop-i.i < n) c.if-terms-others.false low in
    let left = term_under (bound c.args.left.now.query.now c.args.left.now.values.now) in
    let right = term_under (bound c.args.right.now.query.now c.args.right.now.values.now) in (
      λ t. let never : false ≡ true = t in cc,
      λ e. c.if-not-terms_agree.ensures.same.1 (same_at left right c.args.terms.now c.args.others.now c.loop-i.i c.index-terms-i.result c.index-others-i.result low low' c.index-terms-i.is c.index-others-i.is e),
    )

pub loop-i-preserved : goal.loop-i-preserved
loop-i-preserved g c =
    let low = c.loop-i-test.true in
    let low' = subst (λ (n : ℕ). c.loop-i.i < n) c.if-terms-others.false low in
    let left = term_under (bound c.args.left.now.query.now c.args.left.now.values.now) in
    let right = term_under (bound c.args.right.now.query.now c.args.right.now.values.now) in
    record {
      same = same_more left right c.args.terms.now c.args.others.now c.loop-i.i c.index-terms-i.result c.index-others-i.result low low' c.index-terms-i.is c.index-others-i.is c.loop-i.invariant.same
          (c.if-not-terms_agree.ensures.same.0 refl);
      valid_left = each_more IsValid c.args.terms.now c.loop-i.i c.index-terms-i.result low c.index-terms-i.is c.loop-i.invariant.valid_left c.if-not-terms_agree.ensures.valid_left;
      valid_right = each_more IsValid c.args.others.now c.loop-i.i c.index-others-i.result low' c.index-others-i.is c.loop-i.invariant.valid_right c.if-not-terms_agree.ensures.valid_right;
    }

pub returns-clause-same : goal.returns-clause-same
returns-clause-same g c =
    let done = c.loop-i-test.false in
    let done' = subst (λ (n : ℕ). n ≤ c.loop-i.i) c.if-terms-others.false done in
    let left = term_under (bound c.args.left.now.query.now c.args.left.now.values.now) in
    let right = term_under (bound c.args.right.now.query.now c.args.right.now.values.now) in
    (λ t. same_end left right c.args.terms.now c.args.others.now c.loop-i.i done done' c.loop-i.invariant.same, λ e. refl)

pub returns-clause-valid_left : goal.returns-clause-valid_left
returns-clause-valid_left g c = λ t. subst AreValid (take_all c.loop-i.i c.args.terms.now c.loop-i-test.false) c.loop-i.invariant.valid_left

pub returns-clause-valid_right : goal.returns-clause-valid_right
returns-clause-valid_right g c = λ t. subst AreValid (take_all c.loop-i.i c.args.others.now (subst (λ (n : ℕ). n ≤ c.loop-i.i) c.if-terms-others.false c.loop-i-test.false)) c.loop-i.invariant.valid_right

pub bounds-others-i : goal.bounds-others-i
bounds-others-i g c = subst (λ (n : ℕ). c.loop-i.i < n) c.if-terms-others.false c.loop-i-test.true

pub offset_bounds-others-i : goal.offset_bounds-others-i
offset_bounds-others-i g c = subst (λ (n : ℕ). c.loop-i.i ≤ n) c.if-terms-others.false c.loop-i.auto.i-end

pub returns-then-terms-others-clause-same : goal.returns-then-terms-others-clause-same
returns-then-terms-others-clause-same g c =
    let left = term_under (bound c.args.left.now.query.now c.args.left.now.values.now) in
    let right = term_under (bound c.args.right.now.query.now c.args.right.now.values.now) in
    (λ t. let never : false ≡ true = t in cc, λ e. absurd (c.if-terms-others.true (sym (length-map c.args.terms.now left) ∙ ap length e ∙ length-map c.args.others.now right)))

pub returns-then-terms-others-clause-valid_left : goal.returns-then-terms-others-clause-valid_left
returns-then-terms-others-clause-valid_left g c = λ t. let never : false ≡ true = t in cc

pub returns-then-terms-others-clause-valid_right : goal.returns-then-terms-others-clause-valid_right
returns-then-terms-others-clause-valid_right g c = λ t. let never : false ≡ true = t in cc

pub returns-then-not-terms_agree-clause-valid_left : goal.returns-then-not-terms_agree-clause-valid_left
returns-then-not-terms_agree-clause-valid_left g c = λ t. let never : false ≡ true = t in cc

pub returns-then-not-terms_agree-clause-valid_right : goal.returns-then-not-terms_agree-clause-valid_right
returns-then-not-terms_agree-clause-valid_right g c = λ t. let never : false ≡ true = t in cc
