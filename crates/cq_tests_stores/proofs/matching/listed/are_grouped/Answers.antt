use Rattle.std.proofs.Common.{arith}
use Rattle.std.proofs.lemmas.List.Sorted.{IsNonDecreasingBy-from_all_adjacent}
use Rattle.cq_atom.specs.declared.edge.Edge.{Edge}
use Rattle.cq_tests_stores.proofs.matching.listed.are_grouped.Goals as goal

pub returns : goal.returns
returns c = λ all. IsNonDecreasingBy-from_all_adjacent (λ (edge : Edge). edge.waiter) c.args.edges.now (λ k d low. c.loop-place.invariant k d (omega arith))
