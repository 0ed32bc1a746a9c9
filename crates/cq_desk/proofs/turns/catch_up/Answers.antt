use Rattle.std.proofs.Common.{◌+◌, ◌-◌, ◌<◌, length, ap, sym, ◌∙◌, arith}
use Rattle.std.proofs.lemmas.Result.{IfOk-from_err}
use Rattle.cq_desk.proofs.Admitting.{on_error}
use Rattle.cq_desk.proofs.Taking.{takes_on}
use Rattle.cq_desk.proofs.turns.catch_up.Goals as goal

pub loop-taken-init : goal.loop-taken-init
loop-taken-init g c = (λ opening was. was, c.requires, omega arith)

pub returns-in_err-admit-clause-leads : goal.returns-in_err-admit-clause-leads
returns-in_err-admit-clause-leads g c = λ opening was. c.in_err-admit.ensures.err ∙ c.loop-taken.invariant.0 opening was

pub returns-in_err-admit-clause-within : goal.returns-in_err-admit-clause-within
returns-in_err-admit-clause-within g c = c.loop-taken.invariant.1

pub returns-in_err-admit-clause-all : goal.returns-in_err-admit-clause-all
returns-in_err-admit-clause-all g c = IfOk-from_err c.from_residual.result _ c.from_residual.ensures.0

pub returns-in_err-admit-clause-lacks : goal.returns-in_err-admit-clause-lacks
returns-in_err-admit-clause-lacks g c = let short = c.loop-taken-test.true in let since = c.loop-taken.invariant.2 in on_error c.from_residual.result (omega (arith, short, since))

pub loop-taken-smaller : goal.loop-taken-smaller
loop-taken-smaller g c = let short = c.loop-taken-test.true in
    let less : length c.args.journal.now - (c.loop-taken.taken + 1) < length c.args.journal.now - c.loop-taken.taken = omega (arith, short) in less

pub loop-taken-preserved : goal.loop-taken-preserved
loop-taken-preserved g c = let at = c.loop-taken in let short = c.loop-taken-test.true in let since = at.invariant.2 in (
  λ opening was. takes_on g.L.Live.after opening (g.L.Live.content at.state) (g.L.Live.content c.admit.new.self) c.args.journal.now c.index-journal-taken.result at.taken short c.index-journal-taken.is
      (c.in_ok-admit.ensures.ok ∙ ap (λ e. g.L.Live.after (g.L.Live.content at.state) e.edit) (sym c.index-journal-taken.is)) (at.invariant.0 opening was),
  omega (arith, short),
  omega (arith, since),
)

pub returns-clause-leads : goal.returns-clause-leads
returns-clause-leads g c = c.loop-taken.invariant.0

pub returns-clause-within : goal.returns-clause-within
returns-clause-within g c = c.loop-taken.invariant.1
