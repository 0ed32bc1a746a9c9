use Rattle.std.proofs.Common.{is_some, sym, ap, ◌∙◌}
use Rattle.std.specs.FinMap.{get}
use Rattle.cq_index.proofs.Views.{get-view}
use Rattle.cq_index.proofs.index.AtomIndex.has.Goals as goal

pub returns : goal.returns
returns g c = c.contains_key.ensures ∙ ap is_some (sym (get-view c.self.inside.kept.entries c.args.place) ∙ ap (λ m. get m c.args.place) c.self.view_is)
