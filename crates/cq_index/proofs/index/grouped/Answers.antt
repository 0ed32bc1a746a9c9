use Rattle.std.proofs.Common.{◌++◌, nat_eq, ap, sym, ◌∙◌, subst}
use Rattle.std.specs.List.{list_any, IsDistinct}
use Rattle.cq_index.specs.Steps.Keys.{KeyContent}
use Rattle.cq_index.specs.Steps.Buckets.{holds}
use Rattle.cq_index.proofs.index.grouped.Goals as goal

pub returns-clause-members : goal.returns-clause-members
returns-clause-members g c p =
    let adds = c.in_ok-add_places.ensures in
    ap (list_any (nat_eq p)) (adds.is ∙ ap (λ l. l ++ adds.added) c.new-places.ensures.items) ∙ adds.members p ∙ ap (λ (k : KeyContent). holds c.args.buckets.now.entries k p) c.asked_of.ensures

pub returns-clause-distinct : goal.returns-clause-distinct
returns-clause-distinct g c =
    let adds = c.in_ok-add_places.ensures in
    subst (IsDistinct nat_eq) (sym (adds.is ∙ ap (λ l. l ++ adds.added) c.new-places.ensures.items)) adds.distinct
