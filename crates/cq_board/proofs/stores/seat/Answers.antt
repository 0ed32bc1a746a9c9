use Rattle.std.proofs.Common.{◌≡◌, refl, sym, ap, ◌∙◌}
use Rattle.cq_roster.specs.Roster.{without}
use Rattle.cq_board.proofs.Stored.{seat-removed, on-ok, on-err, failed, succeeded}
use Rattle.cq_board.proofs.stores.seat.Goals as goal

pub returns-then-is_err-clause-err_roster : goal.returns-then-is_err-clause-err_roster
returns-then-is_err-clause-err_roster g c =
    on-err c.add-added.result (c.remove.new.self ≡ c.args.roster.now)
    (c.remove.ensures.others ∙ ap (without c.args.name.now) c.in_ok-add.ensures.ok ∙ seat-removed c.args.name.now c.args.place c.args.roster.now c.requires.absent)

pub returns-in_err-add-clause-seated : goal.returns-in_err-add-clause-seated
returns-in_err-add-clause-seated g c = failed c.from_residual.result _ c.from_residual.ensures.0

pub returns-in_err-add-clause-node : goal.returns-in_err-add-clause-node
returns-in_err-add-clause-node g c = failed c.from_residual.result _ c.from_residual.ensures.0

pub returns-in_err-add-clause-others : goal.returns-in_err-add-clause-others
returns-in_err-add-clause-others g c = failed c.from_residual.result _ c.from_residual.ensures.0

pub returns-in_err-add-clause-edges : goal.returns-in_err-add-clause-edges
returns-in_err-add-clause-edges g c = failed c.from_residual.result _ c.from_residual.ensures.0

pub returns-in_err-add-clause-matched : goal.returns-in_err-add-clause-matched
returns-in_err-add-clause-matched g c = failed c.from_residual.result _ c.from_residual.ensures.0

pub returns-in_err-add-clause-err_roster : goal.returns-in_err-add-clause-err_roster
returns-in_err-add-clause-err_roster g c = on-err c.from_residual.result _ c.in_err-add.ensures.err

pub returns-in_err-add-clause-err_matcher : goal.returns-in_err-add-clause-err_matcher
returns-in_err-add-clause-err_matcher g c = on-err c.from_residual.result _ refl

pub returns-then-is_err-clause-seated : goal.returns-then-is_err-clause-seated
returns-then-is_err-clause-seated g c = failed c.add-added.result _ (sym c.is_err.ensures.value ∙ c.if-is_err.true)

pub returns-then-is_err-clause-node : goal.returns-then-is_err-clause-node
returns-then-is_err-clause-node g c = c.add-added.ensures.node

pub returns-then-is_err-clause-others : goal.returns-then-is_err-clause-others
returns-then-is_err-clause-others g c = c.add-added.ensures.others

pub returns-then-is_err-clause-edges : goal.returns-then-is_err-clause-edges
returns-then-is_err-clause-edges g c = c.add-added.ensures.edges

pub returns-then-is_err-clause-matched : goal.returns-then-is_err-clause-matched
returns-then-is_err-clause-matched g c = c.add-added.ensures.matched

pub returns-then-is_err-clause-err_matcher : goal.returns-then-is_err-clause-err_matcher
returns-then-is_err-clause-err_matcher g c = c.add-added.ensures.err

pub returns-else-is_err-clause-seated : goal.returns-else-is_err-clause-seated
returns-else-is_err-clause-seated g c = on-ok c.add-added.result _ c.in_ok-add.ensures.ok

pub returns-else-is_err-clause-node : goal.returns-else-is_err-clause-node
returns-else-is_err-clause-node g c = c.add-added.ensures.node

pub returns-else-is_err-clause-others : goal.returns-else-is_err-clause-others
returns-else-is_err-clause-others g c = c.add-added.ensures.others

pub returns-else-is_err-clause-edges : goal.returns-else-is_err-clause-edges
returns-else-is_err-clause-edges g c = c.add-added.ensures.edges

pub returns-else-is_err-clause-matched : goal.returns-else-is_err-clause-matched
returns-else-is_err-clause-matched g c = c.add-added.ensures.matched

pub returns-else-is_err-clause-err_roster : goal.returns-else-is_err-clause-err_roster
returns-else-is_err-clause-err_roster g c = succeeded c.add-added.result _ (sym c.is_err.ensures.value ∙ c.if-is_err.false)

pub returns-else-is_err-clause-err_matcher : goal.returns-else-is_err-clause-err_matcher
returns-else-is_err-clause-err_matcher g c = c.add-added.ensures.err
