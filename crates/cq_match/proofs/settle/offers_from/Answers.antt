use Rattle.std.proofs.Common.{rules, ltb, leb, subst, sym}
use Rattle.std.specs.List.Sorted.{IsNonDecreasingBy}
use Rattle.std.proofs.lemmas.List.Sorted.{IsPartitionPoint-from_clause, IsPartitionedBy-ltb, IsPartitionedBy-leb, IsNonDecreasingBy-drop}
use Rattle.cq_match.specs.declared.settle.Offer.{Offer}
use Rattle.cq_match.proofs.Grouped.{between-by}
use Rattle.cq_match.proofs.settle.offers_from.Goals as goal

pub returns : goal.returns
returns c =
    let place = c.args.place in
    let offers = c.args.offers.now in
    let rest = c.split_at.result.1.now in
    let k = c.partition_point-below.result in
    let count = c.partition_point-count.result in
    let first = IsPartitionPoint-from_clause (λ (l : Offer). ltb l.provider place) offers k c.partition_point-below.ensures.partitioned (IsPartitionedBy-ltb (λ (l : Offer). l.provider) offers place c.requires) (λ a r f called. search rules) in
    let rest_rises : IsNonDecreasingBy (λ (l : Offer). l.provider) rest = subst (IsNonDecreasingBy (λ (l : Offer). l.provider)) (sym c.split_at.ensures.back) (IsNonDecreasingBy-drop (λ (l : Offer). l.provider) k offers c.requires) in
    let second = IsPartitionPoint-from_clause (λ (l : Offer). leb l.provider place) rest count c.partition_point-count.ensures.partitioned (IsPartitionedBy-leb (λ (l : Offer). l.provider) rest place rest_rises) (λ a r f called. search rules) in
    between-by (λ l. l.provider) place offers rest c.split_at-2.result.0.now k count first c.split_at.ensures.back second c.split_at-2.ensures.front
