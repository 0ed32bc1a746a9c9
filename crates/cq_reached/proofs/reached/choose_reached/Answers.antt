use Rattle.std.proofs.Common.{List, map, refl, ap}
use Rattle.std.proofs.lemmas.Result.{IfOk-from_err}
use Rattle.cq_reached.specs.declared.quick.Taken.{Taken}
use Rattle.cq_reached.specs.Steps.Taking.{names_of}
use Rattle.cq_reached.proofs.OneMore.{found-possible, found-decided, undecided-possible, choice-as}
use Rattle.cq_reached.proofs.Taking.{reached-choice}
use Rattle.cq_reached.proofs.reached.choose_reached.Goals as goal

pub take_all-requires-clause-none : goal.take_all-requires-clause-none
take_all-requires-clause-none g c = ap (λ (l : List (Taken g.row.A.Denot)). names_of l) c.new.ensures.items

pub take_all-requires-clause-within : goal.take_all-requires-clause-within
take_all-requires-clause-within g c = c.in_ok-choices.ensures

pub choose_surely-requires-clause-names : goal.choose_surely-requires-clause-names
choose_surely-requires-clause-names g c = rw c.deref-5.ensures.value c.in_ok-names.ensures

pub choose_surely-requires-clause-within : goal.choose_surely-requires-clause-within
choose_surely-requires-clause-within g c = c.in_ok-told.ensures.within

pub returns-then-not-told-clause-possible : goal.returns-then-not-told-clause-possible
returns-then-not-told-clause-possible g c is = undecided-possible g.row.A.Denot is

pub returns-then-not-told-clause-undecided : goal.returns-then-not-told-clause-undecided
returns-then-not-told-clause-undecided g c is = c.in_ok-told.ensures.undecided c.if-not-told.true

pub returns-then-not-told-clause-within : goal.returns-then-not-told-clause-within
returns-then-not-told-clause-within g c = c.in_ok-told.ensures.within

pub returns-clause-found : goal.returns-clause-found
returns-clause-found g c = c.choose_surely.ensures.found

pub returns-clause-possible : goal.returns-clause-possible
returns-clause-possible g c = c.choose_surely.ensures.possible

pub returns-clause-undecided : goal.returns-clause-undecided
returns-clause-undecided g c = c.choose_surely.ensures.undecided

pub returns-clause-within : goal.returns-clause-within
returns-clause-within g c = c.choose_surely.ensures.within

pub returns-in_err-choices-clause-found : goal.returns-in_err-choices-clause-found
returns-in_err-choices-clause-found g c = IfOk-from_err c.from_residual-in_err-choices.result _ c.from_residual-in_err-choices.ensures.0

pub returns-in_err-choices-clause-possible : goal.returns-in_err-choices-clause-possible
returns-in_err-choices-clause-possible g c = IfOk-from_err c.from_residual-in_err-choices.result _ c.from_residual-in_err-choices.ensures.0

pub returns-in_err-choices-clause-undecided : goal.returns-in_err-choices-clause-undecided
returns-in_err-choices-clause-undecided g c = IfOk-from_err c.from_residual-in_err-choices.result _ c.from_residual-in_err-choices.ensures.0

pub returns-in_err-choices-clause-within : goal.returns-in_err-choices-clause-within
returns-in_err-choices-clause-within g c = IfOk-from_err c.from_residual-in_err-choices.result _ c.from_residual-in_err-choices.ensures.0

pub returns-in_err-told-clause-found : goal.returns-in_err-told-clause-found
returns-in_err-told-clause-found g c = IfOk-from_err c.from_residual-in_err-told.result _ c.from_residual-in_err-told.ensures.0

pub returns-in_err-told-clause-possible : goal.returns-in_err-told-clause-possible
returns-in_err-told-clause-possible g c = IfOk-from_err c.from_residual-in_err-told.result _ c.from_residual-in_err-told.ensures.0

pub returns-in_err-told-clause-undecided : goal.returns-in_err-told-clause-undecided
returns-in_err-told-clause-undecided g c = IfOk-from_err c.from_residual-in_err-told.result _ c.from_residual-in_err-told.ensures.0

pub returns-in_err-told-clause-within : goal.returns-in_err-told-clause-within
returns-in_err-told-clause-within g c = IfOk-from_err c.from_residual-in_err-told.result _ c.from_residual-in_err-told.ensures.0

pub returns-then-is_choice_for-clause-found : goal.returns-then-is_choice_for-clause-found
returns-then-is_choice_for-clause-found g c =
    let pool = c.args.board.now in
    let names = c.deref-2.result.now in
    let reach = c.take_all.new.reach in
    reached-choice pool (map (λ name. name.now) names) (names_of reach.taken.items) reach.choices.items (rw c.deref-2.ensures.value c.in_ok-names.ensures) (c.in_ok-told.ensures.taken c.if-not-told.false)
    (choice-as pool c.deref-4.result.now reach.taken.items c.deref-3.result.now reach.choices.items c.deref-4.ensures.value c.deref-3.ensures.value (c.if-is_choice_for.ensures refl))

pub returns-then-is_choice_for-clause-possible : goal.returns-then-is_choice_for-clause-possible
returns-then-is_choice_for-clause-possible g c is = found-possible c.take_all.new.reach.choices is

pub returns-then-is_choice_for-clause-undecided : goal.returns-then-is_choice_for-clause-undecided
returns-then-is_choice_for-clause-undecided g c is = absurd (found-decided c.take_all.new.reach.choices is)

pub returns-then-is_choice_for-clause-within : goal.returns-then-is_choice_for-clause-within
returns-then-is_choice_for-clause-within g c = c.in_ok-told.ensures.within
