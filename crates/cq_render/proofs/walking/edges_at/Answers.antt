use Rattle.std.proofs.Common.{rules, ltb, leb, subst, sym}
use Rattle.std.specs.List.Sorted.{IsNonDecreasingBy}
use Rattle.std.proofs.lemmas.List.Sorted.{IsPartitionPoint-from_clause, IsPartitionedBy-ltb, IsPartitionedBy-leb, IsNonDecreasingBy-drop}
use Rattle.cq_atom.specs.declared.edge.Edge.{Edge}
use Rattle.cq_match.proofs.CallerLemmas.{between-by}
use Rattle.cq_render.proofs.walking.edges_at.Goals as goal

pub returns : goal.returns
returns c =
    let post = c.args.post in
    let edges = c.args.edges.now in
    let rest = c.split_at.result.1.now in
    let k = c.partition_point-below.result in
    let count = c.partition_point-count.result in
    let first = IsPartitionPoint-from_clause (λ (e : Edge). ltb e.post post) edges k c.partition_point-below.ensures.partitioned (IsPartitionedBy-ltb (λ (e : Edge). e.post) edges post c.requires) (λ a r f called. search rules) in
    let rest_rises : IsNonDecreasingBy (λ (e : Edge). e.post) rest = subst (IsNonDecreasingBy (λ (e : Edge). e.post)) (sym c.split_at.ensures.back) (IsNonDecreasingBy-drop (λ (e : Edge). e.post) k edges c.requires) in
    let second = IsPartitionPoint-from_clause (λ (e : Edge). leb e.post post) rest count c.partition_point-count.ensures.partitioned (IsPartitionedBy-leb (λ (e : Edge). e.post) rest post rest_rises) (λ a r f called. search rules) in
    between-by (λ e. e.post) post edges rest c.split_at-2.result.0.now k count first c.split_at.ensures.back second c.split_at-2.ensures.front
