use Rattle.std.proofs.Common.{◌≡◌, Ok, ap, sym, ◌∙◌, subst}
use Rattle.cq_select.specs.Selection.{IsSelection}
use Rattle.cq_select.specs.Steps.Facts.{chosen_of}
use Rattle.cq_select.proofs.search.select.Goals as goal

pub returns-in-Complete-clause-found : goal.returns-in-Complete-clause-found
returns-in-Complete-clause-found g c =
    let frames = c.run.new.trail.frames.items in
    let is : c.in_ok-chosen-in-Complete.chosen.items ≡ chosen_of frames = c.in_ok-chosen-in-Complete.ensures ∙ ap chosen_of c.deref.ensures.value in
    subst (IsSelection c.args.supply.now c.args.wanted.now) (sym is) (c.in_ok-run.ensures.complete (ap Ok c.in-Complete.is))

pub returns-in-Complete-clause-within : goal.returns-in-Complete-clause-within
returns-in-Complete-clause-within g c = c.in_ok-run.ensures.within

pub returns-in-Impossible-clause-none : goal.returns-in-Impossible-clause-none
returns-in-Impossible-clause-none g c e = c.in_ok-run.ensures.impossible (ap Ok c.in-Impossible.is)

pub returns-in-Impossible-clause-undecided : goal.returns-in-Impossible-clause-undecided
returns-in-Impossible-clause-undecided g c e = cc

pub returns-in-Impossible-clause-within : goal.returns-in-Impossible-clause-within
returns-in-Impossible-clause-within g c = c.in_ok-run.ensures.within

pub returns-clause-none : goal.returns-clause-none
returns-clause-none g c e chosen s = cc

pub returns-clause-undecided : goal.returns-clause-undecided
returns-clause-undecided g c e = c.in_ok-run.ensures.stopped (ap Ok c.in-Stopped.is)

pub returns-clause-within : goal.returns-clause-within
returns-clause-within g c = c.in_ok-run.ensures.within
