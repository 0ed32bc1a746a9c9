use Rattle.std.proofs.Common.{◌∙◌}
use Rattle.cq_rel.proofs.Declared.{entry-seen, declared-as}
use Rattle.cq_rel.proofs.catalog.Catalog.entry.Goals as goal

pub returns : goal.returns
returns g c =
    let d = c.in_ok-entry.entry.now in
    entry-seen c.self.inside.entries.items c.args.self.now c.deref.result.now c.args.place d c.self.view_is c.deref.ensures.value c.in_ok-entry.ensures.lookup.3.0 c.in_ok-entry.ensures.lookup.1
    ∙ declared-as d _ _ c.relation.ensures (cc)
