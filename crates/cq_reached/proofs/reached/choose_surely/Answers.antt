use Rattle.std.proofs.Common.{ℕ, List, [], map, sym, subst, ◌∙◌}
use Rattle.cq_choose.specs.Choosing.{IsChoiceFor}
use Rattle.cq_choose.specs.declared.choosing.Answer.TheVariants.{Found, Undecided}
use Rattle.cq_reached.specs.Reached.{IsReachedChoice}
use Rattle.cq_reached.proofs.OneMore.{answered, found-possible, undecided-possible, found-decided}
use Rattle.cq_reached.proofs.Taking.{nothing-chosen, reached-choice}
use Rattle.cq_reached.proofs.reached.choose_surely.Goals.{then-told, else-told}
use Rattle.cq_reached.proofs.reached.choose_surely.Goals as goal

pub take_surely-requires-clause-choice : goal.take_surely-requires-clause-choice
take_surely-requires-clause-choice g c =
    let pool = c.args.board.now in
    subst (λ (names : List (List ℕ)). IsChoiceFor pool names c.new-2.result.items) (sym c.new.ensures.items) (subst (IsChoiceFor pool []) (sym c.new-2.ensures.items) (nothing-chosen pool))

pub take_surely-requires-clause-none : goal.take_surely-requires-clause-none
take_surely-requires-clause-none g c = c.new.ensures.items

pub returns-clause-found : goal.returns-clause-found
returns-clause-found g c =
    let pool = c.args.board.now in
    let reach = c.take_surely.new.reach in
    elim c.if-told.branch [
      | then-told w ↦ answered (IsReachedChoice pool) c.if-told.answer (Found reach.choices) w.answer-is
          (reached-choice pool (map (λ name. name.now) c.args.names.now) reach.taken.items reach.choices.items c.requires.names (c.in_ok-told.ensures.taken w.if-told.true) (c.in_ok-told.ensures.choice w.if-told.true))
      | else-told w ↦ answered (IsReachedChoice pool) c.if-told.answer Undecided w.answer-is tt
    ]

pub returns-clause-possible : goal.returns-clause-possible
returns-clause-possible g c is = elim c.if-told.branch [
  | then-told w ↦ found-possible c.take_surely.new.reach.choices (sym w.answer-is ∙ is)
  | else-told w ↦ undecided-possible g.row.A.Denot (sym w.answer-is ∙ is)
]

pub returns-clause-undecided : goal.returns-clause-undecided
returns-clause-undecided g c is = elim c.if-told.branch [
  | then-told w ↦ absurd (found-decided c.take_surely.new.reach.choices (sym w.answer-is ∙ is))
  | else-told w ↦ c.in_ok-told.ensures.undecided w.if-told.false
]

pub returns-clause-within : goal.returns-clause-within
returns-clause-within g c = c.in_ok-told.ensures.within
