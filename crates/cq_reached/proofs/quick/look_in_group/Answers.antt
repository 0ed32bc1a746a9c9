use Rattle.std.proofs.Common.{ℕ, List, ◌++◌, ◌∷◌, [], inr, refl, sym, subst}
use Rattle.std.specs.List.{All, Contains}
use Rattle.cq_board.specs.Choice.{ChoiceRecord}
use Rattle.cq_choose.specs.Choosing.{IsChoiceFor}
use Rattle.cq_reached.specs.declared.quick.Taken.{Taken}
use Rattle.cq_reached.specs.Steps.Taking.{names_of}
use Rattle.std.proofs.lemmas.Bool.{true≢false, false≢true}
use Rattle.cq_reached.proofs.OneMore.{steps-within, steps-all}
use Rattle.cq_reached.proofs.Taking.{cannot-all}
use Rattle.cq_reached.proofs.quick.look_in_group.Goals as goal

pub returns-in-Impossible-clause-next : goal.returns-in-Impossible-clause-next
returns-in-Impossible-clause-next g c told =
    let pool = c.args.board.now in
    let part = c.in_ok-part.part.items in
    let name = c.args.name.now in
    let among = subst (λ (l : List (Taken g.row.A.Denot)). All (Contains (names_of l ++ name ∷ [])) part) c.deref.ensures.value c.in_ok-part.ensures in
    let none = λ (choices : List ChoiceRecord) (is : IsChoiceFor pool part choices). c.in_ok-answer.ensures.none c.in-Impossible.is choices (subst (λ (l : List (List ℕ)). IsChoiceFor pool l choices) (sym c.deref-2.ensures.value) is) in
    inr (cannot-all pool part (names_of c.args.reach.now.taken.items ++ name ∷ []) among none, refl)

pub returns-in-Found-clause-within : goal.returns-in-Found-clause-within
returns-in-Found-clause-within g c = steps-within c.args.reach.now.steps c.in_ok-answer.field-0.steps c.args.budget c.requires c.in_ok-answer.ensures.within

pub returns-in-Found-clause-undecided : goal.returns-in-Found-clause-undecided
returns-in-Found-clause-undecided g c told = absurd (true≢false told)

pub returns-in-Impossible-clause-within : goal.returns-in-Impossible-clause-within
returns-in-Impossible-clause-within g c = steps-within c.args.reach.now.steps c.in_ok-answer.field-0.steps c.args.budget c.requires c.in_ok-answer.ensures.within

pub returns-in-Impossible-clause-undecided : goal.returns-in-Impossible-clause-undecided
returns-in-Impossible-clause-undecided g c told = absurd (true≢false told)

pub returns-clause-within : goal.returns-clause-within
returns-clause-within g c = steps-within c.args.reach.now.steps c.in_ok-answer.field-0.steps c.args.budget c.requires c.in_ok-answer.ensures.within

pub returns-clause-undecided : goal.returns-clause-undecided
returns-clause-undecided g c told = steps-all c.args.reach.now.steps c.in_ok-answer.field-0.steps c.args.budget c.requires (c.in_ok-answer.ensures.undecided c.in-Undecided.is)

pub returns-clause-next : goal.returns-clause-next
returns-clause-next g c told = absurd (false≢true told)
