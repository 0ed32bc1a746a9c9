use Rattle.std.proofs.Common.{◌≡◌, ℕ, ◌+◌, Bool, nat_eq, filter, count_by, take}
use Rattle.std.specs.Set.{is_member}
use Rattle.cq_atom.specs.declared.edge.Edge.{Edge}
use Rattle.cq_match.specs.Matched.{is_matched}
use Rattle.cq_match.specs.Matcher.{is_apart}
use Rattle.cq_match.proofs.matcher.Matcher.link_all.Given as goal

abbrev pub invariant-loop-edge : goal.invariant-loop-edge
invariant-loop-edge g l = record {
  nodes : l.self.nodes ≡ l.initial.self.nodes;
  edges : (test : Edge → Bool) → count_by test l.self.edges ≡ count_by test l.initial.self.edges + count_by test (take l.edge-index l.edges);
  apart : filter (is_apart l.node) l.self.edges ≡ filter (is_apart l.node) l.initial.self.edges;
  matched : l.self.matched ≡ l.initial.self.matched;
  exact : (n : ℕ) → is_member nat_eq l.self.matched n ≡ is_matched l.self.nodes l.self.edges n;
}
