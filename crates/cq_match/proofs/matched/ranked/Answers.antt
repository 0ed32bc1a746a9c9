use Rattle.std.proofs.Common.{rules, ℕ, Bool}
use Rattle.std.specs.List.Sorted.{IsPermutation}
use Rattle.std.proofs.lemmas.List.Sorted.{IsNonDecreasingBy-from_sort_by_key}
use Rattle.cq_match.proofs.Ranks.{ranked-from_sort}
use Rattle.cq_match.proofs.matched.ranked.Goals as goal

pub returns-clause-rising : goal.returns-clause-rising
returns-clause-rising g c =
    let sorted = c.sort_unstable_by_key.new.self.items in
    let moved : IsPermutation c.args.nodes.now sorted = rw c.in_ok-ranked.ensures.items at c.sort_unstable_by_key.ensures.permutation in
    let rises = IsNonDecreasingBy-from_sort_by_key (λ (node : ℕ × ℕ × Bool). node.0) sorted c.sort_unstable_by_key.ensures.sorted (λ a r q k. search rules) in
    ranked-from_sort c.args.nodes.now sorted c.requires moved rises
