use Rattle.std.proofs.Common.{map, sym, ap, subst, ◌∙◌}
use Rattle.std.proofs.lemmas.Slice.Eq.{bytes_eq-Decides}
use Rattle.cq_atom.specs.Atom.{AtomRecord}
use Rattle.cq_atom.specs.Valuation.{term_under}
use Rattle.cq_board.specs.Choice.{bound}
use Rattle.cq_board.specs.Steps.Choices.{AreValid}
use Rattle.cq_board.proofs.Agreement.{agreeing_unify, under_same}
use Rattle.cq_board.proofs.choice.atoms_agree.Goals as goal

pub returns-then-eq-clause-same : goal.returns-then-eq-clause-same
returns-then-eq-clause-same g c =
    let left = bound c.args.offering.now.query.now c.args.offering.now.values.now in
    let right = bound c.args.waiting.now.query.now c.args.waiting.now.values.now in
    let named = sym c.relation.ensures.value ∙ (bytes_eq-Decides c.relation.result.now c.relation-2.result.now).0 (sym c.eq.ensures ∙ c.if-eq.true) ∙ c.relation-2.ensures.value in (
      λ t. under_same left right c.args.head.now c.args.post.now named
          (ap (map (term_under left)) (sym c.terms.ensures.value) ∙ c.all_agree.ensures.same.0 t ∙ ap (map (term_under right)) c.terms-then-eq.ensures.value),
      λ e. c.all_agree.ensures.same.1
          (ap (map (term_under left)) c.terms.ensures.value ∙ ap (λ (a : AtomRecord). a.terms) e ∙ ap (map (term_under right)) (sym c.terms-then-eq.ensures.value)),
    )

pub returns-then-eq-clause-unify : goal.returns-then-eq-clause-unify
returns-then-eq-clause-unify g c =
    let left = bound c.args.offering.now.query.now c.args.offering.now.values.now in
    let right = bound c.args.waiting.now.query.now c.args.waiting.now.values.now in
    let named = sym c.relation.ensures.value ∙ (bytes_eq-Decides c.relation.result.now c.relation-2.result.now).0 (sym c.eq.ensures ∙ c.if-eq.true) ∙ c.relation-2.ensures.value in
    λ t. agreeing_unify left right c.args.head.now c.args.post.now
    (under_same left right c.args.head.now c.args.post.now named
    (ap (map (term_under left)) (sym c.terms.ensures.value) ∙ c.all_agree.ensures.same.0 t ∙ ap (map (term_under right)) c.terms-then-eq.ensures.value))
    (subst AreValid c.terms.ensures.value (c.all_agree.ensures.valid_left t)) (subst AreValid c.terms-then-eq.ensures.value (c.all_agree.ensures.valid_right t))
