use Rattle.std.proofs.Common.{◌≡◌, true, false, sym, ◌∙◌}
use Rattle.cq_board.proofs.Coordination.{served_all, all_served}
use Rattle.cq_board.proofs.Law.{suppliers_matched}
use Rattle.cq_board.proofs.board.Board.check_choice.Goals as goal

pub returns-then-are_grounded-clause-choice : goal.returns-then-are_grounded-clause-choice
returns-then-are_grounded-clause-choice g c =
    let pending = c.args.self.now.pending in
    let choices = c.args.choices.now in (
      λ t. record {
        distinct = c.names_differ.ensures.0 c.if-not-names_differ.false;
        grounded = c.are_grounded.ensures.0 c.if-are_grounded.true;
        served = served_all pending choices (c.are_served.ensures.same.0 t);
      },
      λ k. c.are_served.ensures.same.1 (all_served pending choices k.served),
    )

pub returns-then-are_grounded-clause-matched : goal.returns-then-are_grounded-clause-matched
returns-then-are_grounded-clause-matched g c =
    λ t. suppliers_matched c.args.self.now c.args.choices.now (c.are_served.ensures.unify t) (c.are_grounded.ensures.0 c.if-are_grounded.true)

pub returns-then-not-names_differ-clause-choice : goal.returns-then-not-names_differ-clause-choice
returns-then-not-names_differ-clause-choice g c = (λ t. let never : false ≡ true = t in cc, λ k. sym c.if-not-names_differ.true ∙ c.names_differ.ensures.1 k.distinct)

pub returns-then-not-names_differ-clause-matched : goal.returns-then-not-names_differ-clause-matched
returns-then-not-names_differ-clause-matched g c = λ t. let never : false ≡ true = t in cc

pub returns-else-are_grounded-clause-choice : goal.returns-else-are_grounded-clause-choice
returns-else-are_grounded-clause-choice g c = (λ t. let never : false ≡ true = sym c.if-are_grounded.false ∙ t in cc, λ k. c.are_grounded.ensures.1 k.grounded)

pub returns-else-are_grounded-clause-matched : goal.returns-else-are_grounded-clause-matched
returns-else-are_grounded-clause-matched g c = λ t. let never : false ≡ true = sym c.if-are_grounded.false ∙ t in cc
