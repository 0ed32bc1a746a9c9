use Rattle.std.proofs.Common.{rules}
use Rattle.std.proofs.lemmas.List.Sorted.{answers_always}
use Rattle.cq_atom.specs.declared.edge.Edge.{Edge}
use Rattle.cq_board.proofs.showing.sort_edges.Goals as goal

pub returns-clause-sorted : goal.returns-clause-sorted
returns-clause-sorted g c = c.sort_unstable_by_key.ensures.sorted (λ (edge : Edge). (edge.waiter, edge.post, edge.provider, edge.head)) (answers_always _ _ _ (λ f a r q k. search rules))
