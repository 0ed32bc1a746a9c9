use Rattle.std.proofs.Common.{true, refl, ap, subst, ◌∙◌, Option, List, Some, IsTrue}
use Rattle.std.specs.Prelude.{◌↔◌}
use Rattle.cq_atom.specs.Value.{ValueContent}
use Rattle.cq_atom.specs.Query.{QueryRecord}
use Rattle.cq_board.specs.Named.{query_named}
use Rattle.cq_board.specs.Steps.Choices.{IsServed, HasSuppliers}
use Rattle.cq_board.proofs.board.Board.is_served.Goals as goal

pub returns-in-Some-clause-same : goal.returns-in-Some-clause-same
returns-in-Some-clause-same g c =
    let pending = c.args.self.now.pending in
    let choices = c.args.choices.now in
    let named = c.in-Some.ensures ∙ ap (λ n. query_named n pending) c.name.ensures in
    subst (λ (o : Option QueryRecord). IsTrue c.has_each_post.result ↔ IsServed pending choices o c.args.choice.now.values) named
    (subst (λ (values : List ValueContent). IsTrue c.has_each_post.result ↔ IsServed pending choices (Some c.in-Some.query.now) values) c.values.ensures c.has_each_post.ensures.same)

pub returns-in-Some-clause-unify : goal.returns-in-Some-clause-unify
returns-in-Some-clause-unify g c =
    let pending = c.args.self.now.pending in
    let named = c.in-Some.ensures ∙ ap (λ n. query_named n pending) c.name.ensures in
    λ t. subst (HasSuppliers pending c.args.choices.now) named (c.has_each_post.ensures.unify t)

pub returns-in-None-clause-same : goal.returns-in-None-clause-same
returns-in-None-clause-same g c =
    let pending = c.args.self.now.pending in
    let choices = c.args.choices.now in
    let named = c.in-None.ensures ∙ ap (λ n. query_named n pending) c.name.ensures in
    subst (λ (o : Option QueryRecord). IsTrue true ↔ IsServed pending choices o c.args.choice.now.values) named (λ t. tt, λ served. refl)

pub returns-in-None-clause-unify : goal.returns-in-None-clause-unify
returns-in-None-clause-unify g c =
    let pending = c.args.self.now.pending in
    let named = c.in-None.ensures ∙ ap (λ n. query_named n pending) c.name.ensures in
    λ t. subst (HasSuppliers pending c.args.choices.now) named tt
