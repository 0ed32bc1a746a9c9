use Rattle.std.proofs.Common.{rules}
use Rattle.std.proofs.lemmas.List.Sorted.{answers_always}
use Rattle.cq_atom.specs.declared.edge.Edge.{Edge}
use Rattle.cq_match.proofs.showing.waiters_of.Goals as goal

pub returns-clause-ordered : goal.returns-clause-ordered
returns-clause-ordered g c = c.sort_unstable_by_key.ensures.sorted (λ (edge : Edge). (edge.waiter, edge.post, edge.head)) (answers_always _ _ _ (λ f a r q k. search rules))
