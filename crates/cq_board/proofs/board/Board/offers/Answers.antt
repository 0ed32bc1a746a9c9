use Rattle.std.proofs.Common.{◌≡◌, true, false, ap, subst, ◌∙◌, Option, List, Some, IsTrue}
use Rattle.std.specs.Prelude.{◌↔◌}
use Rattle.cq_atom.specs.Value.{ValueContent}
use Rattle.cq_atom.specs.Query.{QueryRecord}
use Rattle.cq_atom.specs.Valuation.{under}
use Rattle.cq_board.specs.Choice.{bound}
use Rattle.cq_board.specs.Named.{query_named}
use Rattle.cq_board.specs.Steps.Choices.{IsOfferedBy, HasHead}
use Rattle.cq_board.proofs.board.Board.offers.Goals as goal

pub returns-in-Some-clause-same : goal.returns-in-Some-clause-same
returns-in-Some-clause-same g c =
    let atom = under (bound c.args.waiting.now.query.now c.args.waiting.now.values.now) c.args.post.now in
    let named = c.in-Some.ensures ∙ ap (λ n. query_named n c.args.self.now.pending) c.name.ensures in
    subst (λ (o : Option QueryRecord). IsTrue c.has_head.result ↔ IsOfferedBy o c.args.choice.now.values atom) named
    (subst (λ (values : List ValueContent). IsTrue c.has_head.result ↔ IsOfferedBy (Some c.in-Some.query.now) values atom) c.values.ensures c.has_head.ensures.same)

pub returns-in-Some-clause-unify : goal.returns-in-Some-clause-unify
returns-in-Some-clause-unify g c =
    let named = c.in-Some.ensures ∙ ap (λ n. query_named n c.args.self.now.pending) c.name.ensures in
    λ t. subst (λ (o : Option QueryRecord). HasHead o c.args.post.now) named (c.has_head.ensures.unify t)

pub returns-in-None-clause-same : goal.returns-in-None-clause-same
returns-in-None-clause-same g c =
    let atom = under (bound c.args.waiting.now.query.now c.args.waiting.now.values.now) c.args.post.now in
    let named = c.in-None.ensures ∙ ap (λ n. query_named n c.args.self.now.pending) c.name.ensures in
    subst (λ (o : Option QueryRecord). IsTrue false ↔ IsOfferedBy o c.args.choice.now.values atom) named (λ t. let never : false ≡ true = t in cc, λ none. absurd none)

pub returns-in-None-clause-unify : goal.returns-in-None-clause-unify
returns-in-None-clause-unify g c = λ t. let never : false ≡ true = t in cc
