use Rattle.std.proofs.lemmas.Bool.{true≢false}
use Rattle.cq_reached.specs.declared.quick.Taken.{Taken}
use Rattle.cq_reached.proofs.OneMore.{next-taken}
use Rattle.cq_reached.proofs.quick.take_next.Goals as goal

pub returns-then-has_choice-clause-within : goal.returns-then-has_choice-clause-within
returns-then-has_choice-clause-within g c = c.requires

pub returns-then-has_choice-clause-undecided : goal.returns-then-has_choice-clause-undecided
returns-then-has_choice-clause-undecided g c told = absurd (true≢false told)

pub returns-then-has_choice-clause-next : goal.returns-then-has_choice-clause-next
returns-then-has_choice-clause-next g c told =
    let one : Taken g.row.A.Denot = record { name = c.args.name; label = c.label_of-label.result } in
    next-taken c.args.board.now c.args.reach.now.taken.items c.push.new.self.items one c.in_ok-push.ensures.items

pub returns-clause-within : goal.returns-clause-within
returns-clause-within g c = c.look_in_group.ensures.within

pub returns-clause-undecided : goal.returns-clause-undecided
returns-clause-undecided g c = c.look_in_group.ensures.undecided

pub returns-clause-next : goal.returns-clause-next
returns-clause-next g c = c.look_in_group.ensures.next
