-- The edges of pending queries, taken from the front of their list.
use Rattle.std.specs.Prelude.{option_map}
use Rattle.std.proofs.Common.{◌≡◌, ℕ, zero, suc, [], ◌∷◌, subst, ◌+◌, ◌<◌, ◌==◌, Bool, true, false, ◌&&◌, List, refl, sym, ◌∙◌, Some, zero-add, length, take, drop, ap}
use Rattle.std.specs.List.{flat_map, enumerate_from, slice_get, list_all, prefix_len}
use Rattle.std.proofs.lemmas.Bool.{eq-eqb}
use Rattle.std.proofs.lemmas.Option.{same_Some}
use Rattle.cq_atom.specs.Atom.{AtomRecord}
use Rattle.cq_atom.specs.Query.{QueryRecord}
use Rattle.cq_atom.specs.declared.edge.Edge.{Edge}
use Rattle.cq_match.specs.Graph.{leads_to, edges_to}
use Rattle.cq_board.specs.Steps.Supply.{unifies}
use Rattle.cq_board.specs.Pool.{PendingQuery}
use Rattle.cq_board.specs.Edges.{edge_if, edges_into, edges_of}
use Rattle.cq_board.specs.Steps.Left.{query_at, edges_at}
use Rattle.cq_board.proofs.Pieces.{by_bool, all_weaker, all_pieces, filter_all, one_place, Cut, cut_piece, numbered_at, item_at}

and_first : (a b : Bool) → (a && b) ≡ true → a ≡ true
and_first true b h = refl
and_first false b h = h

and_second : (a b : Bool) → (a && b) ≡ true → b ≡ true
and_second true b h = h
and_second false b h = cc

-- a query that stands at a place is pending there
pub posted_at : (pending : List PendingQuery) (i : ℕ) (query : QueryRecord) → query_at pending i ≡ Some query → (posted : PendingQuery) × (slice_get pending i ≡ Some posted) × (posted.query ≡ query)
posted_at [] i query h = cc
posted_at (p ∷ pending) zero query h = (p, refl, same_Some p.query query h)
posted_at (p ∷ pending) (suc i) query h = posted_at pending i query h

module _ (pending : List PendingQuery) where
  edge_leads : (provider : ℕ) (head : ℕ × AtomRecord) (waiter : ℕ) (post : ℕ × AtomRecord) → list_all (leads_to waiter post.0) (edge_if provider head waiter post) ≡ true
  edge_leads provider head waiter post =
      by_bool (unifies head.1 post.1) (list_all (leads_to waiter post.0) (edge_if provider head waiter post) ≡ true)
      (λ t. rw t (rw (eq-eqb waiter waiter refl, eq-eqb post.0 post.0 refl) refl))
      (λ f. rw f refl)

  into_leads : (waiter : ℕ) (post : ℕ × AtomRecord) → list_all (leads_to waiter post.0) (edges_into pending waiter post) ≡ true
  into_leads waiter post =
      all_pieces (leads_to waiter post.0) (λ provider. flat_map (λ head. edge_if provider.0 head waiter post) (enumerate_from 0 provider.1.query.heads))
      (λ provider. all_pieces (leads_to waiter post.0) (λ head. edge_if provider.0 head waiter post) (λ head. edge_leads provider.0 head waiter post) (enumerate_from 0 provider.1.query.heads))
      (enumerate_from 0 pending)

  into_waiter : (waiter : ℕ) (post : ℕ × AtomRecord) → list_all (λ e. e.waiter == waiter) (edges_into pending waiter post) ≡ true
  into_waiter waiter post =
      all_weaker (leads_to waiter post.0) (λ e. e.waiter == waiter) (λ e t. and_first (e.waiter == waiter) (e.post == post.0) t)
      (edges_into pending waiter post) (into_leads waiter post)

  into_post : (waiter : ℕ) (post : ℕ) (wanted : AtomRecord) → list_all (λ e. e.post == post) (edges_into pending waiter (post, wanted)) ≡ true
  into_post waiter post wanted =
      all_weaker (leads_to waiter post) (λ e. e.post == post) (λ e t. and_second (e.waiter == waiter) (e.post == post) t)
      (edges_into pending waiter (post, wanted)) (into_leads waiter (post, wanted))

  at_waiter : (waiter : ℕ) (posted : PendingQuery) → list_all (λ e. e.waiter == waiter) (edges_at pending (waiter, posted)) ≡ true
  at_waiter waiter posted =
      all_pieces (λ e. e.waiter == waiter) (edges_into pending waiter) (λ post. into_waiter waiter post) (enumerate_from 0 posted.query.posts)

  -- the edges to a postcondition, among all edges
  pub edges_to_post : (i k : ℕ) (waiter : PendingQuery) (wanted : AtomRecord) → slice_get pending i ≡ Some waiter → slice_get waiter.query.posts k ≡ Some wanted
      → edges_to i k (edges_of pending) ≡ edges_into pending i (k, wanted)
  edges_to_post i k waiter wanted here there =
      one_place (edges_at pending) (λ e. e.waiter) at_waiter (leads_to i k) i (λ e t. and_first (e.waiter == i) (e.post == k) t) 0 pending i waiter (zero-add i) here
      ∙ one_place (edges_into pending i) (λ e. e.post) (into_post i) (leads_to i k) k (λ e t. and_second (e.waiter == i) (e.post == k) t) 0 waiter.query.posts k wanted (zero-add k) there
      ∙ filter_all (leads_to i k) (edges_into pending i (k, wanted)) (into_leads i (k, wanted))

  -- the edges to a query stand in front
  pub cut_waiter : (i : ℕ) (waiter : PendingQuery) (left : List Edge) → slice_get pending i ≡ Some waiter → left ≡ flat_map (edges_at pending) (enumerate_from i (drop i pending))
      → Cut left (edges_at pending (i, waiter)) (flat_map (edges_at pending) (enumerate_from (i + 1) (drop (i + 1) pending))) (prefix_len (λ e. e.waiter == i) left)
  cut_waiter i waiter left here is =
      cut_piece (edges_at pending) (λ e. e.waiter) at_waiter i waiter (drop (i + 1) pending) left (is ∙ numbered_at (edges_at pending) pending i i waiter here)

  -- and those to a postcondition in front of them
  pub cut_post : (i k : ℕ) (posts : List AtomRecord) (wanted : AtomRecord) (left : List Edge) → slice_get posts k ≡ Some wanted → left ≡ flat_map (edges_into pending i) (enumerate_from k (drop k posts))
      → Cut left (edges_into pending i (k, wanted)) (flat_map (edges_into pending i) (enumerate_from (k + 1) (drop (k + 1) posts))) (prefix_len (λ e. e.post == k) left)
  cut_post i k posts wanted left there is =
      cut_piece (edges_into pending i) (λ e. e.post) (into_post i) k wanted (drop (k + 1) posts) left (is ∙ numbered_at (edges_into pending i) posts k k wanted there)

  -- the edges in front of those that are left are those to the postcondition
  pub post_front : (i k n : ℕ) (query : QueryRecord) (left front back : List Edge) → query_at pending i ≡ Some query → k < length query.posts
      → left ≡ flat_map (edges_into pending i) (enumerate_from k (drop k query.posts)) → n ≡ prefix_len (λ e. e.post == k) left → front ≡ take n left → back ≡ drop n left
      → (front ≡ edges_to i k (edges_of pending)) × (back ≡ flat_map (edges_into pending i) (enumerate_from (k + 1) (drop (k + 1) query.posts)))
  post_front i k n query left front back here low is count taken dropped =
      let waiter = posted_at pending i query here in
      let wanted = item_at query.posts k low in
      let there = subst (λ (q : QueryRecord). slice_get q.posts k ≡ Some wanted.item) (sym waiter.2) wanted.got in
      let cut = cut_post i k query.posts wanted.item left wanted.got is in
      (taken ∙ ap (λ m. take m left) count ∙ cut.front_is ∙ sym (edges_to_post i k waiter.0 wanted.item waiter.1 there), dropped ∙ ap (λ m. drop m left) count ∙ cut.rest_is)

  -- and those to a query
  pub waiter_front : (i n : ℕ) (waiter : PendingQuery) (left front back : List Edge) → slice_get pending i ≡ Some waiter
      → left ≡ flat_map (edges_at pending) (enumerate_from i (drop i pending)) → n ≡ prefix_len (λ e. e.waiter == i) left → front ≡ take n left → back ≡ drop n left
      → (front ≡ edges_at pending (i, waiter)) × (back ≡ flat_map (edges_at pending) (enumerate_from (i + 1) (drop (i + 1) pending)))
  waiter_front i n waiter left front back here is count taken dropped =
      let cut = cut_waiter i waiter left here is in
      (taken ∙ ap (λ m. take m left) count ∙ cut.front_is, dropped ∙ ap (λ m. drop m left) count ∙ cut.rest_is)

-- the query at a place is that of who is pending there
pub same_query : (pending : List PendingQuery) (i : ℕ) (query : QueryRecord) (posted : PendingQuery) → query_at pending i ≡ Some query → slice_get pending i ≡ Some posted → query ≡ posted.query
same_query pending i query posted h here = same_Some query posted.query (sym h ∙ ap (option_map (λ (p : PendingQuery). p.query)) here)
