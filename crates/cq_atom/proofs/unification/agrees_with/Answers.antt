use Rattle.std.proofs.Common.{◌≡◌, ◌<◌, length, arith, sym, refl, ◌∙◌, true, false, below_more}
use Rattle.cq_atom.specs.Value.{ValueContent}
use Rattle.cq_atom.specs.declared.term.TermKind.TheVariants.{Constant}
use Rattle.cq_atom.specs.Steps.Labels.{AgreesWith, label_at, term_at}
use Rattle.cq_atom.proofs.Glue.{constant_is, no_constant, term_read, false_case}
use Rattle.cq_atom.proofs.unification.agrees_with.Goals as goal
use Rattle.cq_atom.proofs.unification.agrees_with.Goals.{then-labels-j+in-Some+else-not-is_same, then-labels-j+in_default, else-labels-j}

pub returns : goal.returns
returns g c = (λ _ j h. c.loop-j.invariant j (omega arith), λ _. refl)

pub returns-then-not-is_same : goal.returns-then-not-is_same
returns-then-not-is_same g c =
    let j = c.loop-j.j in
    let inside : j < length c.args.terms.now = omega arith in
    let is : term_at c.args.terms.now j ≡ Constant c.in-Some.other.now =
    sym (term_read c.args.terms.now j c.index-terms-j.result inside c.index-terms-j.is) ∙ constant_is c.index-terms-j.result c.in-Some.other.now c.in-Some.ensures.value in
    false_case (AgreesWith c.args.labels.now c.args.label c.args.value.now c.args.terms.now) (λ all.
    let e : false ≡ true = c.if-not-is_same.ensures.1 (all j inside c.if-labels-j.true c.in-Some.other.now is) in cc)

pub loop-j-preserved : goal.loop-j-preserved
loop-j-preserved g c =
    let j = c.loop-j.j in
    let inside : j < length c.args.terms.now = omega arith in
    below_more (λ k. label_at c.args.labels.now k ≡ c.args.label → (d : ValueContent) → term_at c.args.terms.now k ≡ Constant d → c.args.value.now ≡ d) j c.loop-j.invariant
    (elim c.if-labels-j.branch [
      | then-labels-j+in-Some+else-not-is_same w ↦ λ _ d t.
          let same : c.args.value.now ≡ w.in-Some.other.now = w.is_same.ensures.0 w.if-not-is_same.false in
          let read = sym (term_read c.args.terms.now j w.index-terms-j.result inside w.index-terms-j.is) ∙ constant_is w.index-terms-j.result w.in-Some.other.now w.in-Some.ensures.value in
          cc (same, read, t)
      | then-labels-j+in_default w ↦ λ _ d t.
          absurd (no_constant w.index-terms-j.result d w.in_default.ensures.value (term_read c.args.terms.now j w.index-terms-j.result inside w.index-terms-j.is ∙ t))
      | else-labels-j w ↦ λ e d t. absurd (w.if-labels-j.false e)
    ])
