-- Graphs whose nodes are numbered by their places.
use Rattle.std.proofs.Common.{◌≡◌, ℕ, ◌<◌, Bool, false, eqb, List, length, get_or, nat_eq, ◌∙◌, arith}
use Rattle.std.specs.List.{IsDistinct}
use Rattle.std.proofs.lemmas.Bool.Decides.{nat_tests}
use Rattle.std.proofs.lemmas.List.{get_or-map, get_or_default, length-map}
use Rattle.std.proofs.lemmas.Map.Keys.{IsDistinct-from_apart}
use Rattle.cq_atom.specs.declared.edge.Edge.{Edge}
use Rattle.cq_match.specs.Matched.{numbers}
use Rattle.cq_tests_stores.specs.Guarded.{HasEnds}
use Rattle.cq_tests_stores.specs.Reasons.{AreNumbered}

abbrev Nodes : Type 0
Nodes = List (ℕ × ℕ × Bool)

number-is : (nodes : Nodes) → AreNumbered nodes → (i d : ℕ) → i < length nodes → get_or (numbers nodes) i d ≡ i
number-is nodes h i d low = get_or-map (λ (x : ℕ × ℕ × Bool). x.0) nodes i (0, 0, false) d low ∙ h i low

pub numbered-distinct : (nodes : Nodes) → AreNumbered nodes → IsDistinct nat_eq (numbers nodes)
numbered-distinct nodes h =
    let len = length-map nodes (λ (x : ℕ × ℕ × Bool). x.0) in
    IsDistinct-from_apart nat_eq (numbers nodes) (λ i j d before low.
    rw (number-is nodes h i d (omega arith), number-is nodes h j d (omega arith)) (differ i j before))
  where
    differ : (a b : ℕ) → a < b → eqb a b ≡ false
    differ a b less = grind (arith, nat_tests)

pub numbered-ends : (nodes : Nodes) (edge : Edge) → AreNumbered nodes → edge.provider < length nodes → edge.waiter < length nodes → edge.post < (get_or nodes edge.waiter (0, 0, false)).1 → HasEnds nodes edge
numbered-ends nodes edge h provider waiter post =
    let len = length-map nodes (λ (x : ℕ × ℕ × Bool). x.0) in
    let node = get_or nodes edge.waiter (0, 0, false) in (
      (edge.provider, (let low : edge.provider < length (numbers nodes) = omega arith in low), number-is nodes h edge.provider edge.provider provider),
      (edge.waiter, node, waiter, get_or_default nodes edge.waiter node (0, 0, false) waiter, (h edge.waiter waiter, post)),
    )
