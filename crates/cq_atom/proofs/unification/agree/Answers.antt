use Rattle.std.proofs.Common.{◌≡◌, ◌<◌, length, arith, subst, sym, refl, ◌∙◌, true, false, below_more}
use Rattle.cq_atom.specs.Value.{ValueContent}
use Rattle.cq_atom.specs.declared.term.TermKind.TheVariants.{Constant}
use Rattle.cq_atom.specs.Value.{IsValue}
use Rattle.cq_atom.specs.Steps.Labels.{Agree, AgreesWith, label_at, term_at}
use Rattle.cq_atom.proofs.Glue.{constant_is, no_constant, term_read, false_case}
use Rattle.cq_atom.proofs.unification.agree.Goals as goal
use Rattle.cq_atom.proofs.unification.agree.Goals.{in-Some+else-not-agrees_with, in_default}

pub returns : goal.returns
returns g c = record {
  tells = (λ _ i j h k e v d s t. c.loop-i.invariant.agree i (omega arith) v s j k (sym e) d t, λ _. refl);
  valid = λ _ i h. c.loop-i.invariant.valid i (omega arith);
}

pub returns-then-not-agrees_with : goal.returns-then-not-agrees_with
returns-then-not-agrees_with g c =
    let i = c.loop-i.i in
    let inside : i < length c.args.a.now = omega arith in
    let is : term_at c.args.a.now i ≡ Constant c.in-Some.value.now =
    sym (term_read c.args.a.now i c.index-a-i.result inside c.index-a-i.is) ∙ constant_is c.index-a-i.result c.in-Some.value.now c.in-Some.ensures.value in
    record {
      tells = false_case (Agree c.args.labels.now c.args.a.now c.args.b.now) (λ all.
          let e : false ≡ true = c.if-not-agrees_with.ensures.1 (λ j h l d t. all i j inside h (sym l) c.in-Some.value.now d is t) in cc);
      valid = λ (e : false ≡ true). cc;
    }

pub loop-i-preserved : goal.loop-i-preserved
loop-i-preserved g c =
    let i = c.loop-i.i in
    let inside : i < length c.args.a.now = omega arith in
    let read : c.index-a-i.result ≡ term_at c.args.a.now i = term_read c.args.a.now i c.index-a-i.result inside c.index-a-i.is in
    record {
      agree = below_more (λ k. (v : ValueContent) → term_at c.args.a.now k ≡ Constant v → AgreesWith c.args.labels.now (label_at c.args.labels.now k) v c.args.b.now) i c.loop-i.invariant.agree
          (elim c.match-as_constant.branch [
            | in-Some+else-not-agrees_with w ↦ λ v s.
                let all : AgreesWith c.args.labels.now (label_at c.args.labels.now i) w.in-Some.value.now c.args.b.now = w.agrees_with.ensures.0 w.if-not-agrees_with.false in
                let is = constant_is c.index-a-i.result w.in-Some.value.now w.in-Some.ensures.value in
                let e : w.in-Some.value.now ≡ v = cc (is, read, s) in
                subst (λ u. AgreesWith c.args.labels.now (label_at c.args.labels.now i) u c.args.b.now) e all
            | in_default w ↦ λ v s. absurd (no_constant c.index-a-i.result v w.in_default.ensures.value (read ∙ s))
          ]);
      valid = below_more (λ k. (v : ValueContent) → term_at c.args.a.now k ≡ Constant v → IsValue v) i c.loop-i.invariant.valid
          (elim c.match-as_constant.branch [
            | in-Some+else-not-agrees_with w ↦ λ v s.
                let is = constant_is c.index-a-i.result w.in-Some.value.now w.in-Some.ensures.value in
                let e : w.in-Some.value.now ≡ v = cc (is, read, s) in
                subst IsValue e w.in-Some.ensures.valid
            | in_default w ↦ λ v s. absurd (no_constant c.index-a-i.result v w.in_default.ensures.value (read ∙ s))
          ]);
    }
