use Rattle.std.proofs.Common.{◌≡◌, true, false, sym}
use Rattle.cq_atom.specs.Valuation.{term_under}
use Rattle.cq_board.specs.Choice.{bound}
use Rattle.cq_board.proofs.Values.{same-values, same-open, value-apart}
use Rattle.cq_board.proofs.choice.terms_agree.Goals as goal

pub returns-in-Some-Some-clause-same : goal.returns-in-Some-Some-clause-same
returns-in-Some-Some-clause-same g c =
    let left = bound c.args.left.now.query.now c.args.left.now.values.now in
    let right = bound c.args.right.now.query.now c.args.right.now.values.now in
    let same = same-values (term_under left c.args.term.now) (term_under right c.args.other.now) c.in-Some-Some.value.now c.in-Some-Some.wanted.now c.in-Some-Some.ensures.value c.in-Some-Some.ensures'.value in
    (λ t. same.0 (c.is_same.ensures.0 t), λ e. c.is_same.ensures.1 (same.1 e))

pub returns-in-None-None-clause-same : goal.returns-in-None-None-clause-same
returns-in-None-None-clause-same g c =
    let left = bound c.args.left.now.query.now c.args.left.now.values.now in
    let right = bound c.args.right.now.query.now c.args.right.now.values.now in
    let same = same-open left right c.args.term.now c.args.other.now c.in-None-None.ensures.value c.in-None-None.ensures'.value in
    (λ t. same.0 (c.is_same_variable.ensures.0 t), λ e. c.is_same_variable.ensures.1 (same.1 e))

pub returns-in_default-clause-same : goal.returns-in_default-clause-same
returns-in_default-clause-same g c =
    let left = bound c.args.left.now.query.now c.args.left.now.values.now in
    let right = bound c.args.right.now.query.now c.args.right.now.values.now in
    (λ t. let never : false ≡ true = t in cc, λ e. absurd (value-apart (term_under left c.args.term.now) (term_under right c.args.other.now) c.in_default.field-0-0.now c.in_default.ensures.value c.in_default.ensures'.value e))

pub returns-in_default-2-clause-same : goal.returns-in_default-2-clause-same
returns-in_default-2-clause-same g c =
    let left = bound c.args.left.now.query.now c.args.left.now.values.now in
    let right = bound c.args.right.now.query.now c.args.right.now.values.now in
    (λ t. let never : false ≡ true = t in cc, λ e. absurd (value-apart (term_under right c.args.other.now) (term_under left c.args.term.now) c.in_default.field-0-1.now c.in_default.ensures'.value c.in_default.ensures.value (sym e)))
