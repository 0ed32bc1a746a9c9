-- The edges of pending queries stand side by side by their waiters.
use Rattle.std.proofs.Common.{◌≡◌, ℕ, zero, suc, ◌<◌, ◌≤◌, List, [], ◌∷◌, length, get_or, inl, inr, refl, sym, ◌∙◌, arith}
use Rattle.std.specs.List.{flat_map, enumerate_from}
use Rattle.std.specs.List.Sorted.{IsNonDecreasingBy}
use Rattle.cq_atom.specs.declared.edge.Edge.{Edge}
use Rattle.cq_board.specs.Pool.{PendingQuery}
use Rattle.cq_board.specs.Edges.{edges_into, edges_of}
use Rattle.cq_board.proofs.Members.{In, In-flat_map_gives}
use Rattle.cq_board.proofs.Ends.{In-get_or, In-edges_into}
use Rattle.cq_board.proofs.Pairwise.{Pairwise, Pairwise-flat_map, enumerate-rises}

abbrev NotAfter : Edge → Edge → Type 0
NotAfter a b = a.waiter ≤ b.waiter

pairwise-of : (xs : List Edge) → ((a b : Edge) → In a xs → In b xs → NotAfter a b) → Pairwise NotAfter xs
pairwise-of [] h = tt
pairwise-of (x ∷ xs) h = (λ y m. h x y (inl refl) (inr m), pairwise-of xs (λ a b m k. h a b (inr m) (inr k)))

rising : (xs : List Edge) → Pairwise NotAfter xs → (i j : ℕ) (d : Edge) → i ≤ j → j < length xs → (get_or xs i d).waiter ≤ (get_or xs j d).waiter
rising [] h i j d order low = absurd (let none : j < 0 = low in omega arith)
rising (x ∷ xs) h zero zero d order low = omega arith
rising (x ∷ xs) h zero (suc j) d order low = h.0 (get_or xs j d) (In-get_or xs j d (let l : suc j < suc (length xs) = low in omega arith))
rising (x ∷ xs) h (suc i) zero d order low = absurd (let never : suc i ≤ 0 = order in omega arith)
rising (x ∷ xs) h (suc i) (suc j) d order low = rising xs h.1 i j d (let o : suc i ≤ suc j = order in omega arith) (let l : suc j < suc (length xs) = low in omega arith)

-- the edges, as they are listed, rise by their waiters
pub edges-grouped : (pending : List PendingQuery) → IsNonDecreasingBy (λ (edge : Edge). edge.waiter) (edges_of pending)
edges-grouped pending = rising (edges_of pending) all
  where
    of_waiter : ℕ × PendingQuery → List Edge
    of_waiter w = flat_map (edges_into pending w.0) (enumerate_from 0 w.1.query.posts)

    waiter-is : (w : ℕ × PendingQuery) (e : Edge) → In e (of_waiter w) → e.waiter ≡ w.0
    waiter-is w e m =
        let by_post = In-flat_map_gives (edges_into pending w.0) (enumerate_from 0 w.1.query.posts) e m in
        (In-edges_into pending w.0 by_post.0 e by_post.2).0

    all : Pairwise NotAfter (edges_of pending)
    all =
        Pairwise-flat_map (λ (p q : ℕ × PendingQuery). p.0 < q.0) NotAfter (λ w. of_waiter w) (enumerate_from 0 pending) (enumerate-rises 0 pending)
        (λ w. pairwise-of (of_waiter w) (λ a b m k. let same : a.waiter ≡ b.waiter = waiter-is w a m ∙ sym (waiter-is w b k) in omega arith))
        (λ w v before a b m k. let first = waiter-is w a m in let second = waiter-is v b k in omega (arith, first, second, before))
