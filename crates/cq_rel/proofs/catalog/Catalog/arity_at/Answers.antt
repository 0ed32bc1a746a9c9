use Rattle.std.proofs.Common.{◌<◌, List, length, subst, sym}
use Rattle.cq_rel.specs.Tables.{Declaration}
use Rattle.cq_rel.proofs.Catalogs.{few-values}
use Rattle.cq_rel.proofs.catalog.Catalog.arity_at.Goals as goal

pub returns-clause-few : goal.returns-clause-few
returns-clause-few g c =
    few-values c.self.inside.entries.items c.args.place c.arity.result c.index.result.now c.self.invariant (subst (λ (ds : List Declaration). c.args.place < length ds) (sym c.self.view_is) c.requires) c.index.ensures c.arity.ensures
