use Rattle.std.proofs.Common.{◌≡◌, ℕ, Bool, ◌<◌, ◌∙◌, List, subst, sym, nat_eq}
use Rattle.std.specs.List.{All, Any, Contains, IsDistinct}
use Rattle.cq_atom.specs.declared.edge.Edge.{Edge}
use Rattle.cq_match.specs.Matched.{numbers}
use Rattle.cq_board.specs.Board.{nodes_of}
use Rattle.cq_board.proofs.Waited.{nodes-distinct, edges-nodes}
use Rattle.cq_board.proofs.board.Board.falls.Goals as goal

pub falling-requires-clause-distinct : goal.falling-requires-clause-distinct
falling-requires-clause-distinct g c = subst (λ (nodes : List (ℕ × ℕ × Bool)). IsDistinct nat_eq (numbers nodes)) (sym (c.deref.ensures.value ∙ c.in_ok-nodes.ensures)) (nodes-distinct c.args.self.now)

pub falling-requires-clause-ends : goal.falling-requires-clause-ends
falling-requires-clause-ends g c =
    let HasNodes : List (ℕ × ℕ × Bool) → Edge → Type 0 = λ nodes edge. Contains (numbers nodes) edge.provider × Any (λ node. (node.0 ≡ edge.waiter) × (edge.post < node.1)) nodes in
    subst (λ (nodes : List (ℕ × ℕ × Bool)). All (HasNodes nodes) c.deref-2.result.now) (sym (c.deref.ensures.value ∙ c.in_ok-nodes.ensures))
    (subst (λ (edges : List Edge). All (HasNodes (nodes_of c.args.self.now)) edges) (sym (c.deref-2.ensures.value ∙ c.in_ok-edges.ensures)) (edges-nodes c.args.self.now))

pub returns-clause-unmatched : goal.returns-clause-unmatched
returns-clause-unmatched g c = rw (c.deref.ensures.value, c.deref-2.ensures.value, c.in_ok-nodes.ensures, c.in_ok-edges.ensures) at c.falling.ensures.unmatched
