use Rattle.std.proofs.Common.{List, ℕ, sym, subst}
use Rattle.std.proofs.lemmas.Bool.{true≢false, false≢true}
use Rattle.cq_choose.specs.Choosing.{IsChoiceFor}
use Rattle.cq_choose.specs.declared.choosing.Answer.TheVariants.{Found}
use Rattle.cq_reached.proofs.OneMore.{steps-within, steps-all, popped, found-for, next-copied, next-left}
use Rattle.cq_reached.proofs.sure.take_next.Goals as goal

pub returns-in-Found-clause-within : goal.returns-in-Found-clause-within
returns-in-Found-clause-within g c = steps-within c.args.reach.now.steps c.in_ok-answer.field-0.steps c.args.budget c.requires.within c.in_ok-answer.ensures.within

pub returns-in-Found-clause-undecided : goal.returns-in-Found-clause-undecided
returns-in-Found-clause-undecided g c told = absurd (true≢false told)

pub returns-in-Found-clause-next : goal.returns-in-Found-clause-next
returns-in-Found-clause-next g c told = next-copied c.args.board.now c.args.reach.now.taken.items c.push.new.self.items c.args.name.now c.in_ok-copy.field-0 c.in_ok-push.ensures.items c.in_ok-copy.ensures

pub returns-in-Found-clause-choice : goal.returns-in-Found-clause-choice
returns-in-Found-clause-choice g c told =
    found-for c.args.board.now c.deref.result.now c.push.new.self.items c.in_ok-answer.field-0.answer (Found c.in-Found.choices) c.in-Found.is c.deref.ensures.value c.in_ok-answer.ensures.found

pub returns-in-Impossible-clause-within : goal.returns-in-Impossible-clause-within
returns-in-Impossible-clause-within g c = steps-within c.args.reach.now.steps c.in_ok-answer.field-0.steps c.args.budget c.requires.within c.in_ok-answer.ensures.within

pub returns-in-Impossible-clause-undecided : goal.returns-in-Impossible-clause-undecided
returns-in-Impossible-clause-undecided g c told = absurd (true≢false told)

pub returns-in-Impossible-clause-next : goal.returns-in-Impossible-clause-next
returns-in-Impossible-clause-next g c told =
    let taken = c.args.reach.now.taken.items in
    let pushed = c.push.new.self.items in
    let copy = c.in_ok-copy.field-0 in
    let back = popped pushed taken c.pop-last.new.self.items copy c.push.new.self.len c.push.new.self.ok.0 c.in_ok-push.ensures.items c.pop-last.ensures.rest in
    next-left c.args.board.now c.deref.result.now pushed taken c.pop-last.new.self.items c.args.name.now copy c.deref.ensures.value c.in_ok-push.ensures.items c.in_ok-copy.ensures (c.in_ok-answer.ensures.none c.in-Impossible.is) back

pub returns-in-Impossible-clause-choice : goal.returns-in-Impossible-clause-choice
returns-in-Impossible-clause-choice g c told =
    let taken = c.args.reach.now.taken.items in
    let pushed = c.push.new.self.items in
    let back = popped pushed taken c.pop-last.new.self.items c.in_ok-copy.field-0 c.push.new.self.len c.push.new.self.ok.0 c.in_ok-push.ensures.items c.pop-last.ensures.rest in
    subst (λ (l : List (List ℕ)). IsChoiceFor c.args.board.now l c.args.reach.now.choices.items) (sym back) c.requires.choice

pub returns-in-Undecided-clause-within : goal.returns-in-Undecided-clause-within
returns-in-Undecided-clause-within g c = steps-within c.args.reach.now.steps c.in_ok-answer.field-0.steps c.args.budget c.requires.within c.in_ok-answer.ensures.within

pub returns-in-Undecided-clause-undecided : goal.returns-in-Undecided-clause-undecided
returns-in-Undecided-clause-undecided g c told = steps-all c.args.reach.now.steps c.in_ok-answer.field-0.steps c.args.budget c.requires.within (c.in_ok-answer.ensures.undecided c.in-Undecided.is)

pub returns-in-Undecided-clause-next : goal.returns-in-Undecided-clause-next
returns-in-Undecided-clause-next g c told = absurd (false≢true told)
