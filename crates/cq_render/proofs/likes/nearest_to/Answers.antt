use Rattle.std.proofs.Common.{List, ℕ, subst}
use Rattle.std.specs.List.Sorted.{IsPermutation}
use Rattle.cq_render.proofs.likes.nearest_to.Goals as goal

pub returns : goal.returns
returns g c = record {
  sorted = c.sort_unstable.new.self.items;
  permutation = subst (λ (all : List (ℕ × ℕ × ℕ)). IsPermutation all c.sort_unstable.new.self.items) c.in_ok-likes.ensures c.sort_unstable.ensures.permutation;
  ordered = c.sort_unstable.ensures.sorted;
  first = c.truncate.ensures.items;
}
