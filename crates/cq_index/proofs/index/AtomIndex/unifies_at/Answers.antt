use Rattle.std.proofs.Common.{IsTrue, sym, ap, ◌∙◌}
use Rattle.std.specs.Option.{option_copied}
use Rattle.cq_index.proofs.Partners.{some_copied, partner_at}
use Rattle.cq_index.proofs.Views.{present_here}
use Rattle.cq_index.proofs.index.AtomIndex.unifies_at.Goals as goal

pub unwrap-kept-requires : goal.unwrap-kept-requires
unwrap-kept-requires g c = some_copied c.get.result _ c.get.ensures.value (present_here c.self.inside.kept.entries c.args.self.now c.args.place c.self.view_is c.requires)

pub returns-clause-unifies : goal.returns-clause-unifies
returns-clause-unifies g c =
    partner_at c.self.inside.kept.entries c.args.self.now c.args.place c.self.view_is c.unwrap-kept.result.now c.args.atom.now (IsTrue c.unify.result)
    (sym c.get.ensures.value ∙ ap option_copied c.unwrap-kept.ensures) c.unify.ensures.unifies
