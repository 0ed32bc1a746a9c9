-- The edges among residents, where one comes or goes.
use Rattle.std.proofs.Common.{◌≡◌, ℕ, ◌+◌, Bool, true, false, not, ◌==◌, List, [], ◌∷◌, ◌++◌, count_by, if◌then◌else◌, refl, ap, ◌∙◌, arith}
use Rattle.std.specs.Prelude.{filter}
use Rattle.std.specs.List.{flat_map, enumerate_from}
use Rattle.std.proofs.lemmas.Bool.{not-true, not-false}
use Rattle.std.proofs.lemmas.Grind.{flat_map-append}
use Rattle.std.proofs.lemmas.List.Elements.{filter-append}
use Rattle.std.proofs.lemmas.List.Sums.{sum_by-append}
use Rattle.cq_atom.specs.Atom.{AtomRecord}
use Rattle.cq_atom.specs.declared.edge.Edge.{Edge}
use Rattle.cq_match.specs.Matcher.{is_apart}
use Rattle.cq_board.specs.Steps.Supply.{unifies}
use Rattle.cq_board.specs.Edges.{edge_if}
use Rattle.cq_board.specs.Steps.Residents.{Resident, all_but, edges_from, edges_between, edges_among, edges_touching}
use Rattle.cq_board.proofs.Members.{by_bool}

-- ---- a resident goes

module _ {X Y : Type 0} (test : Y → Bool) where
  filter-flat_map : (keep : X → Bool) (f g : X → List Y) → ((x : X) → keep x ≡ true → filter test (f x) ≡ g x) → ((x : X) → keep x ≡ false → filter test (f x) ≡ [])
      → (xs : List X) → filter test (flat_map f xs) ≡ flat_map g (filter keep xs)
  filter-flat_map keep f g stay go [] = refl
  filter-flat_map keep f g stay go (x ∷ xs) =
      let rest = filter-flat_map keep f g stay go xs in
      filter-append test (f x) (flat_map f xs)
      ∙ by_bool (keep x) (filter test (f x) ++ filter test (flat_map f xs) ≡ flat_map g (filter keep (x ∷ xs)))
      (λ k. rw k (ap (λ ys. ys ++ filter test (flat_map f xs)) (stay x k) ∙ ap (λ ys. g x ++ ys) rest))
      (λ k. rw k (ap (λ ys. ys ++ filter test (flat_map f xs)) (go x k) ∙ rest))

  filter-flat_map_each : (f g : X → List Y) → ((x : X) → filter test (f x) ≡ g x) → (xs : List X) → filter test (flat_map f xs) ≡ flat_map g xs
  filter-flat_map_each f g each [] = refl
  filter-flat_map_each f g each (x ∷ xs) =
      filter-append test (f x) (flat_map f xs) ∙ ap (λ ys. ys ++ filter test (flat_map f xs)) (each x) ∙ ap (λ ys. g x ++ ys) (filter-flat_map_each f g each xs)

  filter-flat_map_none : (f : X → List Y) → ((x : X) → filter test (f x) ≡ []) → (xs : List X) → filter test (flat_map f xs) ≡ []
  filter-flat_map_none f none [] = refl
  filter-flat_map_none f none (x ∷ xs) =
      filter-append test (f x) (flat_map f xs) ∙ ap (λ ys. ys ++ filter test (flat_map f xs)) (none x) ∙ filter-flat_map_none f none xs

module _ (p provider : ℕ) (head : ℕ × AtomRecord) (waiter : ℕ) (post : ℕ × AtomRecord) where
  edge_stays : (provider == p) ≡ false → (waiter == p) ≡ false → filter (is_apart p) (edge_if provider head waiter post) ≡ edge_if provider head waiter post
  edge_stays a b = by_bool (unifies head.1 post.1) (filter (is_apart p) (edge_if provider head waiter post) ≡ edge_if provider head waiter post) (λ u. rw (u, a, b) refl) (λ u. rw u refl)

  provider_goes : (provider == p) ≡ true → filter (is_apart p) (edge_if provider head waiter post) ≡ []
  provider_goes a = by_bool (unifies head.1 post.1) (filter (is_apart p) (edge_if provider head waiter post) ≡ []) (λ u. rw (u, a) refl) (λ u. rw u refl)

  waiter_goes : (waiter == p) ≡ true → filter (is_apart p) (edge_if provider head waiter post) ≡ []
  waiter_goes b =
      by_bool (unifies head.1 post.1) (filter (is_apart p) (edge_if provider head waiter post) ≡ [])
      (λ u. by_bool (provider == p) (filter (is_apart p) (edge_if provider head waiter post) ≡ []) (λ a. rw (u, a) refl) (λ a. rw (u, a, b) refl))
      (λ u. rw u refl)

module _ (p : ℕ) (providers : List Resident) where
  from_stays : (waiter : ℕ) (post : ℕ × AtomRecord) → (waiter == p) ≡ false → filter (is_apart p) (edges_from providers waiter post) ≡ edges_from (all_but p providers) waiter post
  from_stays waiter post b =
      let edges : Resident → List Edge = λ r. flat_map (λ head. edge_if r.0 head waiter post) (enumerate_from 0 r.1.query.heads) in
      filter-flat_map (is_apart p) (λ r. not (r.0 == p)) edges edges
      (λ r k. filter-flat_map_each (is_apart p) (λ head. edge_if r.0 head waiter post) (λ head. edge_if r.0 head waiter post) (λ head. edge_stays p r.0 head waiter post (not-true (r.0 == p) k) b) (enumerate_from 0 r.1.query.heads))
      (λ r k. filter-flat_map_none (is_apart p) (λ head. edge_if r.0 head waiter post) (λ head. provider_goes p r.0 head waiter post (not-false (r.0 == p) k)) (enumerate_from 0 r.1.query.heads))
      providers

  from_goes : (waiter : ℕ) (post : ℕ × AtomRecord) → (waiter == p) ≡ true → filter (is_apart p) (edges_from providers waiter post) ≡ []
  from_goes waiter post b =
      filter-flat_map_none (is_apart p) (λ (r : Resident). flat_map (λ head. edge_if r.0 head waiter post) (enumerate_from 0 r.1.query.heads))
      (λ r. filter-flat_map_none (is_apart p) (λ head. edge_if r.0 head waiter post) (λ head. waiter_goes p r.0 head waiter post b) (enumerate_from 0 r.1.query.heads)) providers

  between_stays : (waiters : List Resident) → filter (is_apart p) (edges_between providers waiters) ≡ edges_between (all_but p providers) (all_but p waiters)
  between_stays waiters =
      filter-flat_map (is_apart p) (λ r. not (r.0 == p)) (λ (w : Resident). flat_map (edges_from providers w.0) (enumerate_from 0 w.1.query.posts)) (λ w. flat_map (edges_from (all_but p providers) w.0) (enumerate_from 0 w.1.query.posts))
      (λ w k. filter-flat_map_each (is_apart p) (edges_from providers w.0) (edges_from (all_but p providers) w.0) (λ post. from_stays w.0 post (not-true (w.0 == p) k)) (enumerate_from 0 w.1.query.posts))
      (λ w k. filter-flat_map_none (is_apart p) (edges_from providers w.0) (λ post. from_goes w.0 post (not-false (w.0 == p) k)) (enumerate_from 0 w.1.query.posts))
      waiters

-- What is left of the edges are those among the residents that are left.
pub edges_withdrawn : (p : ℕ) (residents : List Resident) → filter (is_apart p) (edges_among residents) ≡ edges_among (all_but p residents)
edges_withdrawn p residents = between_stays p residents residents

-- ---- a resident comes

module _ {Y : Type 0} (test : Y → Bool) where
  pub count-append : (xs ys : List Y) → count_by test (xs ++ ys) ≡ count_by test xs + count_by test ys
  count-append xs ys = sum_by-append (λ y. if test y then 1 else 0) xs ys

  count-split : {X : Type 0} (f g h : X → List Y) → ((x : X) → count_by test (f x) ≡ count_by test (g x) + count_by test (h x))
      → (xs : List X) → count_by test (flat_map f xs) ≡ count_by test (flat_map g xs) + count_by test (flat_map h xs)
  count-split f g h each [] = refl
  count-split f g h each (x ∷ xs) =
      let all = count-append (f x) (flat_map f xs) in
      let first = count-append (g x) (flat_map g xs) in
      let second = count-append (h x) (flat_map h xs) in
      let here = each x in
      let rest = count-split f g h each xs in
      omega arith

module _ (test : Edge → Bool) where
  more_providers : (providers others waiters : List Resident) → count_by test (edges_between (providers ++ others) waiters) ≡ count_by test (edges_between providers waiters) + count_by test (edges_between others waiters)
  more_providers providers others waiters =
      count-split test
      (λ (w : Resident). flat_map (edges_from (providers ++ others) w.0) (enumerate_from 0 w.1.query.posts))
      (λ (w : Resident). flat_map (edges_from providers w.0) (enumerate_from 0 w.1.query.posts))
      (λ (w : Resident). flat_map (edges_from others w.0) (enumerate_from 0 w.1.query.posts))
      (λ w. count-split test (edges_from (providers ++ others) w.0) (edges_from providers w.0) (edges_from others w.0)
      (λ post.
      let edges : Resident → List Edge = λ r. flat_map (λ head. edge_if r.0 head w.0 post) (enumerate_from 0 r.1.query.heads) in
      ap (count_by test) (flat_map-append edges providers others) ∙ count-append test (edges_from providers w.0 post) (edges_from others w.0 post))
      (enumerate_from 0 w.1.query.posts))
      waiters

  more_waiters : (providers waiters others : List Resident) → count_by test (edges_between providers (waiters ++ others)) ≡ count_by test (edges_between providers waiters) + count_by test (edges_between providers others)
  more_waiters providers waiters others =
      ap (count_by test) (flat_map-append (λ (w : Resident). flat_map (edges_from providers w.0) (enumerate_from 0 w.1.query.posts)) waiters others)
      ∙ count-append test (edges_between providers waiters) (edges_between providers others)

  -- The edges are those that there were, and those that touch what has come.
  pub edges_posted : (residents : List Resident) (r : Resident) → count_by test (edges_among (residents ++ r ∷ [])) ≡ count_by test (edges_among residents) + count_by test (edges_touching residents r)
  edges_posted residents r =
      let all = more_waiters (residents ++ r ∷ []) residents (r ∷ []) in
      let old = more_providers residents (r ∷ []) residents in
      let new = more_providers residents (r ∷ []) (r ∷ []) in
      let touching = count-append test (edges_between residents (r ∷ [])) (edges_between (r ∷ []) residents ++ edges_between (r ∷ []) (r ∷ [])) in
      let inner = count-append test (edges_between (r ∷ []) residents) (edges_between (r ∷ []) (r ∷ [])) in
      omega arith
