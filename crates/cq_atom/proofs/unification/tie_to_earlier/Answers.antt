use Rattle.std.proofs.Common.{◌≡◌, ◌+◌, ◌<◌, ◌≤◌, length, arith, subst, sym, true, false}
use Rattle.cq_atom.specs.Steps.Labels.{Ties, EndsAt, SameVariable, term_at}
use Rattle.cq_atom.proofs.Merges.{Ties-skip, Ties-merge}
use Rattle.cq_atom.proofs.Glue.{term_read}
use Rattle.cq_atom.proofs.unification.tie_to_earlier.Goals as goal
use Rattle.cq_atom.proofs.unification.tie_to_earlier.Goals.{then-is_same_variable, else-is_same_variable}

pub returns : goal.returns
returns g c =
    let e : c.loop-i.i ≡ c.args.j = omega arith in
    subst (λ n. Ties c.args.labels.now c.loop-i.labels c.args.terms.now (EndsAt c.args.j n)) e c.loop-i.invariant

pub loop-i-preserved : goal.loop-i-preserved
loop-i-preserved g c =
    let i = c.loop-i.i in
    let j = c.args.j in
    let xs = c.args.terms.now in
    let inside : j < length xs = c.requires.inside in
    let below : i < j = omega arith in
    let i_is : c.index-terms-i.result ≡ term_at xs i = term_read xs i c.index-terms-i.result (omega arith) c.index-terms-i.is in
    let j_is : c.index-terms-j.result ≡ term_at xs j = term_read xs j c.index-terms-j.result inside c.index-terms-j.is in
    let fits : length xs ≤ length c.loop-i.labels = let s : length c.loop-i.labels ≡ length c.args.labels.now = c.loop-i.invariant.size in let f : length xs ≤ length c.args.labels.now = c.requires.fits in omega arith in
    elim c.if-is_same_variable.branch [
      | then-is_same_variable w ↦
          subst (λ ls. Ties c.args.labels.now ls xs (EndsAt j (i + 1))) (sym w.labels-is)
          (Ties-merge c.args.labels.now c.loop-i.labels xs fits i j below inside c.loop-i.invariant w.merge.new.labels w.merge.ensures
          (subst (λ t. SameVariable (term_at xs i) t) j_is (subst (λ s. SameVariable s c.index-terms-j.result) i_is (c.is_same_variable.ensures.0 w.if-is_same_variable.true))))
      | else-is_same_variable w ↦
          subst (λ ls. Ties c.args.labels.now ls xs (EndsAt j (i + 1))) (sym w.labels-is)
          (Ties-skip c.args.labels.now c.loop-i.labels xs fits i j below inside c.loop-i.invariant
          (λ same. let t : c.is_same_variable.result ≡ true = c.is_same_variable.ensures.1 (subst (λ t. SameVariable c.index-terms-i.result t) (sym j_is) (subst (λ s. SameVariable s (term_at xs j)) (sym i_is) same)) in
          let f : c.is_same_variable.result ≡ false = w.if-is_same_variable.false in cc))
    ]
