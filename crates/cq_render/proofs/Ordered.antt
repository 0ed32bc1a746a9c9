-- The edges to one query rise by their postconditions.
use Rattle.std.proofs.Common.{◌≡◌, ℕ, zero, suc, ◌+◌, ◌<◌, ◌≤◌, ◌==◌, Bool, true, refl, List, [], ◌∷◌, ◌++◌, length, filter, get_or, sym, ◌∙◌, arith}
use Rattle.std.specs.List.{AllByRecursion, flat_map, enumerate_from}
use Rattle.std.specs.List.Sorted.{IsNonDecreasingBy}
use Rattle.std.proofs.lemmas.Bool.{eqb-true}
use Rattle.cq_atom.specs.Atom.{AtomRecord}
use Rattle.cq_atom.specs.declared.edge.Edge.{Edge}
use Rattle.cq_board.proofs.CallerLemmas.{unifies}
use Rattle.cq_board.specs.Pool.{PendingQuery}
use Rattle.cq_board.specs.Edges.{edge_if, edges_into, edges_of}
use Rattle.cq_render.proofs.Pieces.{by_bool}

-- ---- what holds of each element

module _ {X : Type 0} where
  all-append : (P : X → Type 0) (xs ys : List X) → AllByRecursion P xs → AllByRecursion P ys → AllByRecursion P (xs ++ ys)
  all-append P [] ys a b = b
  all-append P (x ∷ xs) ys a b = (a.0, all-append P xs ys a.1 b)

  all-weaker : (P Q : X → Type 0) → ((x : X) → P x → Q x) → (xs : List X) → AllByRecursion P xs → AllByRecursion Q xs
  all-weaker P Q h [] a = tt
  all-weaker P Q h (x ∷ xs) a = (h x a.0, all-weaker P Q h xs a.1)

  all-kept : (P Q : X → Type 0) (p : X → Bool) → ((x : X) → p x ≡ true → P x → Q x) → (xs : List X) → AllByRecursion P xs → AllByRecursion Q (filter p xs)
  all-kept P Q p h [] a = tt
  all-kept P Q p h (x ∷ xs) a =
      by_bool (p x) (AllByRecursion Q (filter p (x ∷ xs)))
      (λ t. rw t (h x t a.0, all-kept P Q p h xs a.1))
      (λ f. rw f (all-kept P Q p h xs a.1))

  all-read : (P : X → Type 0) (xs : List X) (i : ℕ) (d : X) → AllByRecursion P xs → i < length xs → P (get_or xs i d)
  all-read P [] i d a low = absurd (let none : i < 0 = low in omega arith)
  all-read P (x ∷ xs) zero d a low = a.0
  all-read P (x ∷ xs) (suc i) d a low = all-read P xs i d a.1 (let l : suc i < suc (length xs) = low in omega arith)

  all-pieces : {Y : Type 0} (P : X → Type 0) (f : Y → List X) → ((y : Y) → AllByRecursion P (f y)) → (ys : List Y) → AllByRecursion P (flat_map f ys)
  all-pieces P f h [] = tt
  all-pieces P f h (y ∷ ys) = all-append P (f y) (flat_map f ys) (h y) (all-pieces P f h ys)

-- ---- the order

abbrev Follows : Edge → Edge → Type 0
Follows a b = a.waiter ≡ b.waiter → a.post ≤ b.post

-- of two edges to one query the later one leads to no earlier postcondition
abbrev InOrder : List Edge → Type 0
InOrder [] = Unit {0}
InOrder (e ∷ es) = AllByRecursion (Follows e) es × InOrder es

in-order-append : (P Q : Edge → Type 0) → ((a b : Edge) → P a → Q b → Follows a b) → (xs ys : List Edge) → AllByRecursion P xs → AllByRecursion Q ys → InOrder xs → InOrder ys → InOrder (xs ++ ys)
in-order-append P Q h [] ys a b one two = two
in-order-append P Q h (x ∷ xs) ys a b one two =
    (all-append (Follows x) xs ys one.0 (all-weaker Q (Follows x) (λ y q. h x y a.0 q) ys b), in-order-append P Q h xs ys a.1 b one.1 two)

-- edges to one postcondition
abbrev LeadsTo : ℕ → ℕ → Edge → Type 0
LeadsTo waiter post edge = (edge.waiter ≡ waiter) × (edge.post ≡ post)

one-post : (waiter post : ℕ) (es : List Edge) → AllByRecursion (LeadsTo waiter post) es → InOrder es
one-post waiter post [] a = tt
one-post waiter post (e ∷ es) a =
    let here : e.post ≡ post = a.0.1 in
    (all-weaker (LeadsTo waiter post) (Follows e) (λ d h same. let there : d.post ≡ post = h.1 in omega arith) es a.1, one-post waiter post es a.1)

module _ (pending : List PendingQuery) where
  edge-leads : (provider : ℕ) (head : ℕ × AtomRecord) (waiter : ℕ) (post : ℕ × AtomRecord) → AllByRecursion (LeadsTo waiter post.0) (edge_if provider head waiter post)
  edge-leads provider head waiter post =
      by_bool (unifies head.1 post.1) (AllByRecursion (LeadsTo waiter post.0) (edge_if provider head waiter post))
      (λ t. rw t ((refl, refl), tt))
      (λ f. rw f tt)

  into-leads : (waiter : ℕ) (post : ℕ × AtomRecord) → AllByRecursion (LeadsTo waiter post.0) (edges_into pending waiter post)
  into-leads waiter post =
      all-pieces (LeadsTo waiter post.0) (λ (provider : ℕ × PendingQuery). flat_map (λ head. edge_if provider.0 head waiter post) (enumerate_from 0 provider.1.query.heads))
      (λ provider. all-pieces (LeadsTo waiter post.0) (λ head. edge_if provider.0 head waiter post) (λ head. edge-leads provider.0 head waiter post) (enumerate_from 0 provider.1.query.heads))
      (enumerate_from 0 pending)

  -- edges to one query, from a postcondition on
  abbrev From : ℕ → ℕ → Edge → Type 0
  From waiter post edge = (edge.waiter ≡ waiter) × (post ≤ edge.post)

  posts-from : (waiter k : ℕ) (posts : List AtomRecord) → AllByRecursion (From waiter k) (flat_map (edges_into pending waiter) (enumerate_from k posts))
  posts-from waiter k [] = tt
  posts-from waiter k (wanted ∷ posts) =
      all-append (From waiter k) (edges_into pending waiter (k, wanted)) _
      (all-weaker (LeadsTo waiter k) (From waiter k) (λ e h. (h.0, let at : e.post ≡ k = h.1 in omega arith)) (edges_into pending waiter (k, wanted)) (into-leads waiter (k, wanted)))
      (all-weaker (From waiter (k + 1)) (From waiter k) (λ e h. (h.0, let at : k + 1 ≤ e.post = h.1 in omega arith)) _ (posts-from waiter (k + 1) posts))

  posts-in-order : (waiter k : ℕ) (posts : List AtomRecord) → InOrder (flat_map (edges_into pending waiter) (enumerate_from k posts))
  posts-in-order waiter k [] = tt
  posts-in-order waiter k (wanted ∷ posts) =
      in-order-append (LeadsTo waiter k) (From waiter (k + 1))
      (λ a b one two same. let here : a.post ≡ k = one.1 in let there : k + 1 ≤ b.post = two.1 in omega arith)
      (edges_into pending waiter (k, wanted)) (flat_map (edges_into pending waiter) (enumerate_from (k + 1) posts))
      (into-leads waiter (k, wanted)) (posts-from waiter (k + 1) posts) (one-post waiter k (edges_into pending waiter (k, wanted)) (into-leads waiter (k, wanted))) (posts-in-order waiter (k + 1) posts)

  abbrev to_waiter : ℕ × PendingQuery → List Edge
  to_waiter waiter = flat_map (edges_into pending waiter.0) (enumerate_from 0 waiter.1.query.posts)

  waiter-is : (n : ℕ) (posted : PendingQuery) → AllByRecursion (λ e. e.waiter ≡ n) (to_waiter (n, posted))
  waiter-is n posted = all-weaker (From n 0) (λ e. e.waiter ≡ n) (λ e h. h.0) (to_waiter (n, posted)) (posts-from n 0 posted.query.posts)

  waiters-from : (n : ℕ) (waiters : List PendingQuery) → AllByRecursion (λ e. n ≤ e.waiter) (flat_map to_waiter (enumerate_from n waiters))
  waiters-from n [] = tt
  waiters-from n (posted ∷ waiters) =
      all-append (λ e. n ≤ e.waiter) (to_waiter (n, posted)) _
      (all-weaker (λ e. e.waiter ≡ n) (λ e. n ≤ e.waiter) (λ e h. omega arith) (to_waiter (n, posted)) (waiter-is n posted))
      (all-weaker (λ e. n + 1 ≤ e.waiter) (λ e. n ≤ e.waiter) (λ e h. omega arith) _ (waiters-from (n + 1) waiters))

  waiters-in-order : (n : ℕ) (waiters : List PendingQuery) → InOrder (flat_map to_waiter (enumerate_from n waiters))
  waiters-in-order n [] = tt
  waiters-in-order n (posted ∷ waiters) =
      in-order-append (λ e. e.waiter ≡ n) (λ e. n + 1 ≤ e.waiter) (λ a b one two same. absurd (omega arith))
      (to_waiter (n, posted)) (flat_map to_waiter (enumerate_from (n + 1) waiters))
      (waiter-is n posted) (waiters-from (n + 1) waiters) (posts-in-order n 0 posted.query.posts) (waiters-in-order (n + 1) waiters)

-- ---- the edges to one query

abbrev Rises : List Edge → Type 0
Rises [] = Unit {0}
Rises (e ∷ es) = AllByRecursion (λ d. e.post ≤ d.post) es × Rises es

of-waiter : (n : ℕ) (es : List Edge) → InOrder es → Rises (filter (λ e. e.waiter == n) es)
of-waiter n [] h = tt
of-waiter n (e ∷ es) h =
    by_bool (e.waiter == n) (Rises (filter (λ e. e.waiter == n) (e ∷ es)))
    (λ t. rw t (
      all-kept (Follows e) (λ d. e.post ≤ d.post) (λ d. d.waiter == n) (λ d u f. f (eqb-true e.waiter n t ∙ sym (eqb-true d.waiter n u))) es h.0,
      of-waiter n es h.1,
    ))
    (λ f. rw f (of-waiter n es h.1))

rising : (es : List Edge) → Rises es → IsNonDecreasingBy (λ (e : Edge). e.post) es
rising [] h i j d order low = absurd (let none : j < 0 = low in omega arith)
rising (e ∷ es) h zero zero d order low = omega arith
rising (e ∷ es) h zero (suc j) d order low = all-read (λ (x : Edge). e.post ≤ x.post) es j d h.0 (let l : suc j < suc (length es) = low in omega arith)
rising (e ∷ es) h (suc i) zero d order low = absurd (let never : suc i ≤ 0 = order in omega arith)
rising (e ∷ es) h (suc i) (suc j) d order low = rising es h.1 i j d (let o : suc i ≤ suc j = order in omega arith) (let l : suc j < suc (length es) = low in omega arith)

-- The edges to one query, as they are listed, rise by their postconditions.
pub posts-grouped : (pending : List PendingQuery) (waiter : ℕ) → IsNonDecreasingBy (λ (edge : Edge). edge.post) (filter (λ edge. edge.waiter == waiter) (edges_of pending))
posts-grouped pending waiter = rising _ (of-waiter waiter (edges_of pending) (waiters-in-order pending 0 pending))
