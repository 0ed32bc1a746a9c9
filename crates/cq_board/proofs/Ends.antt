-- Where edges begin and end.
use Rattle.std.proofs.Common.{◌≡◌, ℕ, zero, suc, ◌+◌, ◌<◌, List, [], ◌∷◌, length, refl, sym, ap, subst, ◌∙◌, arith, get_or, inl, inr, Bool, Some, map, take, ◌++◌}
use Rattle.std.specs.Prelude.{filter}
use Rattle.std.specs.List.{flat_map, enumerate_from, slice_get}
use Rattle.std.proofs.lemmas.List.{map-append, take_more}
use Rattle.std.proofs.lemmas.Option.{slice_get_within}
use Rattle.cq_atom.specs.Atom.{AtomRecord}
use Rattle.cq_atom.specs.declared.edge.Edge.{Edge}
use Rattle.cq_board.specs.Steps.Supply.{unifies}
use Rattle.cq_board.specs.Pool.{PendingQuery}
use Rattle.cq_board.specs.Edges.{edge_if, edges_into, edges_of}
use Rattle.cq_board.proofs.Members.{by_bool, In, In-flat_map_gives}

module _ {X : Type 0} where
  pub In-get_or : (xs : List X) (k : ℕ) (d : X) → k < length xs → In (get_or xs k d) xs
  In-get_or [] k d h = absurd (omega arith)
  In-get_or (x ∷ xs) zero d h = inl refl
  In-get_or (x ∷ xs) (suc k) d h = inr (In-get_or xs k d (omega arith))

  -- an element with its place stands at that place
  pub In-enumerate_from : (n : ℕ) (xs : List X) (p : ℕ × X) → In p (enumerate_from n xs) → (k : ℕ) × (p.0 ≡ n + k) × (slice_get xs k ≡ Some p.1)
  In-enumerate_from n [] p h = absurd h
  In-enumerate_from n (x ∷ xs) p (inl e) = let at : p.0 ≡ n = ap (λ q. q.0) e in (0, omega arith, ap (λ q. Some q.1) (sym e))
  In-enumerate_from n (x ∷ xs) p (inr h) = let more = In-enumerate_from (n + 1) xs p h in let at : p.0 ≡ n + 1 + more.0 = more.1 in (suc more.0, omega arith, more.2)

  pub In-enumerate : (xs : List X) (p : ℕ × X) → In p (enumerate_from 0 xs) → slice_get xs p.0 ≡ Some p.1
  In-enumerate xs p h =
      let found = In-enumerate_from 0 xs p h in
      let at : found.0 ≡ p.0 = omega (arith, found.1) in
      subst (λ (k : ℕ). slice_get xs k ≡ Some p.1) at found.2

pub In-filter_among : {X : Type 0} (p : X → Bool) (xs : List X) (x : X) → In x (filter p xs) → In x xs
In-filter_among p [] x h = absurd h
In-filter_among p (y ∷ xs) x h =
    by_bool (p y) (In x (y ∷ xs))
    (λ k. elim (rw k at h) as (λ _. In x (y ∷ xs)) [ inl e ↦ inl e | inr m ↦ inr (In-filter_among p xs x m) ])
    (λ k. inr (In-filter_among p xs x (rw k at h)))

-- both ends of an edge are among the pending queries
pub record HasEnds (pending : List PendingQuery) (edge : Edge) : Type 0 where
  pub provider : edge.provider < length pending
  pub waiter : edge.waiter < length pending

-- what an edge from a head to a postcondition is
pub In-edge_if : (provider : ℕ) (head : ℕ × AtomRecord) (waiter : ℕ) (post : ℕ × AtomRecord) (e : Edge) → In e (edge_if provider head waiter post)
    → e ≡ record { provider = provider; head = head.0; waiter = waiter; post = post.0 }
In-edge_if provider head waiter post e h =
    by_bool (unifies head.1 post.1) (e ≡ record { provider = provider; head = head.0; waiter = waiter; post = post.0 })
    (λ k. elim (rw k at h) as (λ _. e ≡ record { provider = provider; head = head.0; waiter = waiter; post = post.0 }) [ inl same ↦ same | inr never ↦ absurd never ])
    (λ k. absurd (rw k at h))

-- the edges to one postcondition lead to it, from pending queries
pub In-edges_into : (pending : List PendingQuery) (waiter : ℕ) (post : ℕ × AtomRecord) (e : Edge) → In e (edges_into pending waiter post)
    → (e.waiter ≡ waiter) × (e.post ≡ post.0) × (e.provider < length pending)
In-edges_into pending waiter post e h =
    let by_provider = In-flat_map_gives (λ provider. flat_map (λ head. edge_if provider.0 head waiter post) (enumerate_from 0 provider.1.query.heads)) (enumerate_from 0 pending) e h in
    let by_head = In-flat_map_gives (λ head. edge_if by_provider.0.0 head waiter post) (enumerate_from 0 by_provider.0.1.query.heads) e by_provider.2 in
    let is = In-edge_if by_provider.0.0 by_head.0 waiter post e by_head.2 in
    let within : by_provider.0.0 < length pending = slice_get_within pending by_provider.0.0 by_provider.0.1 (In-enumerate pending by_provider.0 by_provider.1) in
    (ap (λ x. x.waiter) is, ap (λ x. x.post) is, subst (λ (k : ℕ). k < length pending) (sym (ap (λ x. x.provider) is)) within)

In-edges_of : (pending : List PendingQuery) (e : Edge) → In e (edges_of pending) → HasEnds pending e
In-edges_of pending e h =
    let by_waiter = In-flat_map_gives (λ w. flat_map (edges_into pending w.0) (enumerate_from 0 w.1.query.posts)) (enumerate_from 0 pending) e h in
    let by_post = In-flat_map_gives (edges_into pending by_waiter.0.0) (enumerate_from 0 by_waiter.0.1.query.posts) e by_waiter.2 in
    let leads = In-edges_into pending by_waiter.0.0 by_post.0 e by_post.2 in
    let within : by_waiter.0.0 < length pending = slice_get_within pending by_waiter.0.0 by_waiter.0.1 (In-enumerate pending by_waiter.0 by_waiter.1) in
    record { provider = leads.2; waiter = subst (λ (k : ℕ). k < length pending) (sym leads.0) within }

pub HasEnds-at : (pending : List PendingQuery) (edges : List Edge) → edges ≡ edges_of pending → (k : ℕ) (d : Edge) → k < length edges → HasEnds pending (get_or edges k d)
HasEnds-at pending edges e k d h = In-edges_of pending (get_or edges k d) (subst (λ (es : List Edge). In (get_or edges k d) es) e (In-get_or edges k d h))

-- one more element on both sides of an equation of maps
pub map_more : {X Y Z : Type 0} (f : X → Z) (g : Y → Z) (xs : List X) (x : X) (ys : List Y) (i : ℕ) (d : Y) → i < length ys
    → map f xs ≡ map g (take i ys) → f x ≡ g (get_or ys i d) → map f (xs ++ (x ∷ [])) ≡ map g (take (i + 1) ys)
map_more f g xs x ys i d h so_far same =
    map-append f xs (x ∷ []) ∙ ap (λ zs. zs ++ (f x ∷ [])) so_far ∙ ap (λ z. map g (take i ys) ++ (z ∷ [])) same
    ∙ sym (map-append g (take i ys) (get_or ys i d ∷ [])) ∙ ap (map g) (sym (take_more ys i d h))
