use Rattle.std.proofs.Common.{◌≡◌, ◌∙◌, false, sym, ap, arith}
use Rattle.cq_atom.specs.Atom.{TermContent}
use Rattle.cq_atom.specs.Valuation.{term_under}
use Rattle.cq_board.specs.Choice.{bound}
use Rattle.cq_choose.specs.Steps.Goods.{same_term, term_of}
use Rattle.cq_choose.proofs.Terms.{terms-apart, terms-at, terms-end, and-false, and-true}
use Rattle.cq_choose.proofs.keys.are_same_terms.Goals as goal

pub returns-then-terms-others : goal.returns-then-terms-others
returns-then-terms-others g c =
    sym (terms-apart (term_under (bound c.args.left.now.query.now c.args.left.now.values.now)) (term_under (bound c.args.right.now.query.now c.args.right.now.values.now)) c.args.terms.now c.args.others.now c.if-terms-others.true)

pub returns-then-not-is_same_part : goal.returns-then-not-is_same_part
returns-then-not-is_same_part g c =
    let f = term_under (bound c.args.left.now.query.now c.args.left.now.values.now) in
    let h = term_under (bound c.args.right.now.query.now c.args.right.now.values.now) in
    let term = c.index-terms-i.result in
    let other = c.index-others-i.result in
    let parts : same_term (f term) (h other) ≡ false =
    sym (ap (λ (t : TermContent). same_term t (term_of c.part_of-in-loop-i.result)) c.part_of.ensures ∙ ap (same_term (f term)) c.part_of-in-loop-i.ensures) ∙ sym c.if-not-is_same_part.ensures in
    sym (c.loop-i.invariant
    ∙ terms-at f h c.args.terms.now c.args.others.now c.loop-i.i term other (omega arith) (omega arith) c.index-terms-i.is c.index-others-i.is
    ∙ and-false (same_term (f term) (h other)) _ parts)

pub loop-i-preserved : goal.loop-i-preserved
loop-i-preserved g c =
    let f = term_under (bound c.args.left.now.query.now c.args.left.now.values.now) in
    let h = term_under (bound c.args.right.now.query.now c.args.right.now.values.now) in
    let term = c.index-terms-i.result in
    let other = c.index-others-i.result in
    let parts =
    sym (ap (λ (t : TermContent). same_term t (term_of c.part_of-in-loop-i.result)) c.part_of.ensures ∙ ap (same_term (f term)) c.part_of-in-loop-i.ensures) ∙ sym c.if-not-is_same_part.ensures in
    c.loop-i.invariant
    ∙ terms-at f h c.args.terms.now c.args.others.now c.loop-i.i term other (omega arith) (omega arith) c.index-terms-i.is c.index-others-i.is
    ∙ and-true (same_term (f term) (h other)) _ parts

pub returns : goal.returns
returns g c =
    let f = term_under (bound c.args.left.now.query.now c.args.left.now.values.now) in
    let h = term_under (bound c.args.right.now.query.now c.args.right.now.values.now) in
    sym (c.loop-i.invariant ∙ terms-end f h c.args.terms.now c.args.others.now c.loop-i.i (omega arith) (omega arith))
