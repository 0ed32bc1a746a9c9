use Rattle.std.proofs.Common.{◌∙◌, sym, ap}
use Rattle.std.specs.Prelude.{None, fold, option_map}
use Rattle.cq_rel.specs.Tables.{arity_in}
use Rattle.cq_near.specs.Unfit.{nearer}
use Rattle.cq_near.proofs.Places.{some_of}
use Rattle.cq_near.proofs.unfit.nearest.Goals as goal

pub returns : goal.returns
returns g c =
    let closer = nearer c.args.terms.now in
    ap (fold closer (option_map (λ best. (best.0, best.1.now)) c.loop-row.best)) (sym c.in-None.ensures.steps.0) ∙ c.loop-row.invariant
    ∙ ap (fold closer None) (c.into_iter-row-iterator.ensures.into_iter_gives ∙ some_of (arity_in c.args.tables.now.catalog c.args.relation.now) _ c.in-Some.rows c.in-Some.ensures.value)
