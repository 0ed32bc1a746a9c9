-- Queries with groundings whose postconditions unify with heads of one another are matched.
use Rattle.std.proofs.Common.{◌≡◌, ℕ, zero, suc, ◌+◌, ◌<◌, Bool, true, false, ◌&&◌, ◌||◌, not, List, [], ◌∷◌, length, map, refl, sym, ap, subst, ◌∙◌, arith, inl, inr, Option, Some, None, get_or}
use Rattle.std.specs.Prelude.{filter, option_map, nat_eq, ◌↔◌}
use Rattle.std.specs.List.{All, Contains, list_any, flat_map, enumerate_from, slice_get, range_with_len}
use Rattle.std.specs.Option.{option_and_then}
use Rattle.std.specs.Set.{is_member}
use Rattle.std.proofs.lemmas.Bool.{eq-eqb, eqb-true, lt-ltb}
use Rattle.std.proofs.lemmas.Option.{slice_get-get_or, slice_get-map, same_Some}
use Rattle.cq_atom.specs.Value.{ValueContent}
use Rattle.cq_atom.specs.Atom.{AtomRecord, RowRecord}
use Rattle.cq_atom.specs.Query.{QueryRecord}
use Rattle.cq_atom.specs.Unify.{Unify}
use Rattle.cq_atom.specs.declared.edge.Edge.{Edge}
use Rattle.cq_match.specs.Graph.{leads_to}
use Rattle.cq_match.specs.Matched.{numbers, is_supplied, has_each_post, is_closed, sublists, is_matched}
use Rattle.cq_ground.specs.Grounding.{AreGroundings, IsGrounding, groundings_of}
use Rattle.cq_ground.proofs.CallerLemmas.{listed-groundings}
use Rattle.cq_board.specs.Steps.Supply.{unifies}
use Rattle.cq_board.specs.Pool.{PendingQuery, PoolRecord}
use Rattle.cq_board.specs.Edges.{edge_if, edges_into, edges_of}
use Rattle.cq_board.specs.Board.{is_able, nodes_of, is_matched_at, all_groundings, place_of}
use Rattle.cq_board.specs.Named.{query_named, matched_named, groundings_named}
use Rattle.cq_board.specs.Choice.{ChoiceRecord, IsGrounded}
use Rattle.cq_board.specs.Steps.Choices.{HasHead, IsSupplied, HasSuppliers, HaveSuppliers}
use Rattle.cq_board.proofs.Members.{by_bool, In, In-left, In-right, any_gives, any_has, In-filter, In-filter_gives, In-map, In-map_gives, In-flat_map}
use Rattle.cq_board.proofs.Among.{All-In, In-All, In-Any, all_has, enumerate-In, In-slice_get}
use Rattle.cq_board.proofs.Ends.{In-enumerate}
use Rattle.cq_board.proofs.Searches.{unifies_tells}

-- what a filter keeps is one of all sublists
filtered-sublist : {X : Type 0} (p : X → Bool) (xs : List X) → In (filter p xs) (sublists xs)
filtered-sublist p [] = inl refl
filtered-sublist {X} p (x ∷ xs) =
    by_bool (p x) (In (filter p (x ∷ xs)) (sublists (x ∷ xs)))
    (λ k. rw k (In-left (x ∷ filter p xs) (map (λ chosen. x ∷ chosen) (sublists xs)) (sublists xs) (In-map (λ chosen. x ∷ chosen) (sublists xs) (filter p xs) (filtered-sublist p xs))))
    (λ k. rw k (In-right (filter p xs) (map (λ chosen. x ∷ chosen) (sublists xs)) (sublists xs) (filtered-sublist p xs)))

range-below : (a n k : ℕ) → In k (range_with_len a n) → k < a + n
range-below a zero k h = absurd h
range-below a (suc n) k (inl e) = omega arith
range-below a (suc n) k (inr h) = let more = range-below (a + 1) n k h in omega (arith, more)

-- a member of a list of numbers is in it
member-In : (set : List ℕ) (n : ℕ) → is_member nat_eq set n ≡ true → In n set
member-In set n h = let found = any_gives (nat_eq n) set h in subst (λ (m : ℕ). In m set) (sym (eqb-true n found.0 found.2)) found.1

In-member : (set : List ℕ) (n : ℕ) → In n set → is_member nat_eq set n ≡ true
In-member set n h = any_has (nat_eq n) set n h (eq-eqb n n refl)

-- a query that is pending under a name has a place
pub record Placed (name : List ℕ) (pending : List PendingQuery) (query : QueryRecord) : Type 0 where
  pub place : ℕ
  pub posted : PendingQuery
  pub at : place_of name pending ≡ Some place
  pub there : slice_get pending place ≡ Some posted
  pub is : posted.query ≡ query

placed_from : (name : List ℕ) (pending : List PendingQuery) (query : QueryRecord) (place : Option ℕ) → place_of name pending ≡ place
    → option_and_then (λ n. option_map (λ (p : PendingQuery). p.query) (slice_get pending n)) place ≡ Some query → Placed name pending query
placed_from name pending query None at e = cc
placed_from name pending query (Some n) at e = posted_from (slice_get pending n) refl e
  where
    posted_from : (o : Option PendingQuery) → slice_get pending n ≡ o → option_map (λ (p : PendingQuery). p.query) o ≡ Some query → Placed name pending query
    posted_from None there e = cc
    posted_from (Some p) there e = record { place = n; posted = p; at = at; there = there; is = cc }

pub placed : (name : List ℕ) (pending : List PendingQuery) (query : QueryRecord) → query_named name pending ≡ Some query → Placed name pending query
placed name pending query e = placed_from name pending query (place_of name pending) refl e

-- the query at a place, from its name
named_at : (name : List ℕ) (pending : List PendingQuery) (place : ℕ) (posted : PendingQuery) → place_of name pending ≡ Some place → slice_get pending place ≡ Some posted → query_named name pending ≡ Some posted.query
named_at name pending place posted at there = ap (option_and_then (λ n. option_map (λ (p : PendingQuery). p.query) (slice_get pending n))) at ∙ ap (option_map (λ (p : PendingQuery). p.query)) there

-- heads and postconditions that unify have an edge between them
edge-between : (pending : List PendingQuery) (i j k m : ℕ) (waiting offering : PendingQuery) (post head : AtomRecord)
    → slice_get pending i ≡ Some waiting → slice_get pending j ≡ Some offering → slice_get waiting.query.posts k ≡ Some post → slice_get offering.query.heads m ≡ Some head → Unify head post
    → In (record { provider = j; head = m; waiter = i; post = k }) (edges_of pending)
edge-between pending i j k m waiting offering post head at_i at_j at_k at_m u =
    let edge : Edge = record { provider = j; head = m; waiter = i; post = k } in
    let test : unifies head post ≡ true = (unifies_tells head post).1 u in
    let here : In edge (edge_if j (m, head) i (k, post)) = rw test (inl refl) in
    In-flat_map (λ w. flat_map (edges_into pending w.0) (enumerate_from 0 w.1.query.posts)) (enumerate_from 0 pending) (i, waiting) edge (enumerate-In pending i waiting at_i)
    (In-flat_map (edges_into pending i) (enumerate_from 0 waiting.query.posts) (k, post) edge (enumerate-In waiting.query.posts k post at_k)
    (In-flat_map (λ provider. flat_map (λ h. edge_if provider.0 h i (k, post)) (enumerate_from 0 provider.1.query.heads)) (enumerate_from 0 pending) (j, offering) edge (enumerate-In pending j offering at_j)
    (In-flat_map (λ h. edge_if j h i (k, post)) (enumerate_from 0 offering.query.heads) (m, head) edge (enumerate-In offering.query.heads m head at_m) here)))

is_place : Option ℕ → ℕ → Bool
is_place None n = false
is_place (Some m) n = nat_eq m n

is_place-true : (o : Option ℕ) (n : ℕ) → is_place o n ≡ true → o ≡ Some n
unfolding is_place
is_place-true None n h = cc
is_place-true (Some m) n h = ap Some (eqb-true m n h)

is_place-has : (o : Option ℕ) (n : ℕ) → o ≡ Some n → is_place o n ≡ true
unfolding is_place
is_place-has None n h = cc
is_place-has (Some m) n h = eq-eqb m n (let same : m ≡ n = cc in same)

-- a query with a grounding is able
grounded-able : (rows : List RowRecord) (posted : PendingQuery) (values : List ValueContent) → IsGrounding posted.query.body rows values → is_able rows posted ≡ true
grounded-able rows posted values g =
    let lists = groundings_of posted.query.body rows in
    let found = ((listed-groundings posted.query.body rows).exactly values).1 g in
    lt-ltb 0 (length lists) (let inside = found.1 in omega arith)

module _ (pool : PoolRecord) (choices : List ChoiceRecord) where
  abbrev pending : List PendingQuery
  pending = pool.pending

  abbrev is_chosen : ℕ → Bool
  is_chosen n = list_any (λ c. is_place (place_of c.name pending) n) choices

  -- the places of the chosen queries
  abbrev chosen : List ℕ
  chosen = filter is_chosen (numbers (nodes_of pool))

  -- the node of a query at its place
  abbrev node_for : ℕ × PendingQuery → ℕ × ℕ × Bool
  node_for p = (p.0, length p.1.query.posts, is_able pool.tables.rows p.1)

  numbers-In : (place : ℕ) (posted : PendingQuery) → slice_get pending place ≡ Some posted → In place (numbers (nodes_of pool))
  numbers-In place posted there =
      In-map (λ (node : ℕ × ℕ × Bool). node.0) (nodes_of pool) (node_for (place, posted))
      (In-map node_for (enumerate_from 0 pending) (place, posted) (enumerate-In pending place posted there))

  -- a choice of a pending query is among them
  chosen-In : (c : ChoiceRecord) (query : QueryRecord) → In c choices → (p : Placed c.name pending query) → In p.place chosen
  chosen-In c query m p =
      In-filter is_chosen (numbers (nodes_of pool)) p.place (numbers-In p.place p.posted p.there)
      (any_has (λ d. is_place (place_of d.name pending) p.place) choices c m (is_place-has (place_of c.name pending) p.place p.at))

  -- the query of a chosen node, and a choice of it
  record ChosenNode (node : ℕ × ℕ × Bool) : Type 0 where
    waiting : PendingQuery
    choice : ChoiceRecord
    at_node : slice_get pending node.0 ≡ Some waiting
    second : node.1 ≡ length waiting.query.posts
    third : node.2 ≡ is_able pool.tables.rows waiting
    among : In choice choices
    named : query_named choice.name pending ≡ Some waiting.query

  chosen_node : (node : ℕ × ℕ × Bool) → In node (nodes_of pool) → In node.0 chosen → ChosenNode node
  chosen_node node m h =
      let by_place = In-map_gives node_for (enumerate_from 0 pending) node m in
      let waiting = by_place.0.1 in
      let here : slice_get pending by_place.0.0 ≡ Some waiting = In-enumerate pending by_place.0 by_place.1 in
      let first : node.0 ≡ by_place.0.0 = ap (λ (n : ℕ × ℕ × Bool). n.0) by_place.2 in
      let at_node : slice_get pending node.0 ≡ Some waiting = ap (slice_get pending) first ∙ here in
      let test = In-filter_gives is_chosen (numbers (nodes_of pool)) node.0 h in
      let by_choice = any_gives (λ d. is_place (place_of d.name pending) node.0) choices test in
      let at = is_place-true (place_of by_choice.0.name pending) node.0 by_choice.2 in
      record {
        waiting = waiting;
        choice = by_choice.0;
        at_node = at_node;
        second = ap (λ (n : ℕ × ℕ × Bool). n.1) by_place.2;
        third = ap (λ (n : ℕ × ℕ × Bool). n.2) by_place.2;
        among = by_choice.1;
        named = named_at by_choice.0.name pending node.0 waiting at at_node;
      }

  module _ (suppliers : HaveSuppliers pending choices) (grounded : All (IsGrounded pool) choices) where
    -- one postcondition of a chosen query has an edge from a chosen one
    post_supplied : (i k : ℕ) (waiting : PendingQuery) (post : AtomRecord) → slice_get pending i ≡ Some waiting → slice_get waiting.query.posts k ≡ Some post
        → IsSupplied pending choices post → is_supplied (edges_of pending) chosen i k ≡ true
    post_supplied i k waiting post at_i at_k supplied =
        let by_choice = In-Any (λ c. HasHead (query_named c.name pending) post) choices supplied in
        from_query by_choice.0 by_choice.1 (query_named by_choice.0.name pending) refl by_choice.2
      where
        from_query : (c : ChoiceRecord) → In c choices → (o : Option QueryRecord) → query_named c.name pending ≡ o → HasHead o post → is_supplied (edges_of pending) chosen i k ≡ true
        from_query c m None is h = absurd h
        from_query c m (Some query) is h =
            let p = placed c.name pending query is in
            let head = In-Any (λ a. Unify a post) query.heads h in
            let here : In head.0 p.posted.query.heads = subst (λ (q : QueryRecord). In head.0 q.heads) (sym p.is) head.1 in
            let spot = In-slice_get p.posted.query.heads head.0 here in
            let edge : Edge = record { provider = p.place; head = spot.0; waiter = i; post = k } in
            let member : is_member nat_eq chosen p.place ≡ true = In-member chosen p.place (chosen-In c query m p) in
            any_has (λ e. leads_to i k e && is_member nat_eq chosen e.provider) (edges_of pending) edge
            (edge-between pending i p.place k spot.0 waiting p.posted post head.0 at_i p.there at_k spot.1 head.2)
            (rw (eq-eqb i i refl, eq-eqb k k refl) member)

    -- each chosen node is able: its query has a grounding
    node_able : (node : ℕ × ℕ × Bool) → In node (nodes_of pool) → In node.0 chosen → node.2 ≡ true
    node_able node m h =
        let n = chosen_node node m h in
        let g = In-All (IsGrounded pool) choices grounded n.choice n.among in
        let same : g.query ≡ n.waiting.query = same_Some g.query n.waiting.query (sym g.pending ∙ n.named) in
        n.third ∙ grounded-able pool.tables.rows n.waiting n.choice.values (subst (λ (q : QueryRecord). IsGrounding q.body pool.tables.rows n.choice.values) same g.grounding)

    -- each postcondition of a chosen query has an edge from a chosen one
    node_supplied : (node : ℕ × ℕ × Bool) → In node (nodes_of pool) → In node.0 chosen → has_each_post (edges_of pending) chosen node ≡ true
    node_supplied node m h =
        let n = chosen_node node m h in
        let all : All (IsSupplied pending choices) n.waiting.query.posts =
        subst (HasSuppliers pending choices) n.named (In-All (λ c. HasSuppliers pending choices (query_named c.name pending)) choices suppliers n.choice n.among) in
        all_has (is_supplied (edges_of pending) chosen node.0) (range_with_len 0 node.1)
        (λ k r. let below = range-below 0 node.1 k r in
        let second = n.second in
        let within : k < length n.waiting.query.posts = omega (arith, below, second) in
        some_post node.0 n.waiting n.at_node all k within)
      where
        some_post : (i : ℕ) (waiting : PendingQuery) → slice_get pending i ≡ Some waiting → All (IsSupplied pending choices) waiting.query.posts → (k : ℕ) → k < length waiting.query.posts
            → is_supplied (edges_of pending) chosen i k ≡ true
        some_post i waiting at_i all k within =
            let post = get_or waiting.query.posts k (record { relation = []; terms = [] }) in
            post_supplied i k waiting post at_i (slice_get-get_or waiting.query.posts k (record { relation = []; terms = [] }) within) (all k (record { relation = []; terms = [] }) within)

    chosen_closed : is_closed (nodes_of pool) (edges_of pending) chosen ≡ true
    unfolding is_closed
    chosen_closed =
        all_has (λ node. not (is_member nat_eq chosen node.0) || (node.2 && has_each_post (edges_of pending) chosen node)) (nodes_of pool)
        (λ node m. by_bool (is_member nat_eq chosen node.0) ((not (is_member nat_eq chosen node.0) || (node.2 && has_each_post (edges_of pending) chosen node)) ≡ true)
        (λ t. let h = member-In chosen node.0 t in rw (t, node_able node m h, node_supplied node m h) refl)
        (λ f. rw f refl))

    chosen_matched : (place : ℕ) → In place chosen → is_matched_at pool place ≡ true
    unfolding is_matched
    chosen_matched place h =
        any_has (λ set. is_closed (nodes_of pool) (edges_of pending) set && is_member nat_eq set place) (sublists (numbers (nodes_of pool))) chosen (filtered-sublist is_chosen (numbers (nodes_of pool)))
        (rw chosen_closed (In-member chosen place h))

    -- Each chosen query is matched.
    pub suppliers_matched : All (λ c. matched_named c.name pool ≡ Some true) choices
    suppliers_matched =
        All-In (λ c. matched_named c.name pool ≡ Some true) choices
        (λ c m. let g = In-All (IsGrounded pool) choices grounded c m in
        let p = placed c.name pending g.query g.pending in
        ap (option_map (is_matched_at pool)) p.at ∙ ap Some (chosen_matched p.place (chosen-In c g.query m p)))

-- ---- groundings by a query's name

-- the pending query of which these are the groundings
pub record Grounds (name : List ℕ) (pool : PoolRecord) (lists : List (List ValueContent)) : Type 0 where
  pub query : QueryRecord
  pub named : query_named name pool.pending ≡ Some query
  pub are : lists ≡ groundings_of query.body pool.tables.rows

module _ (name : List ℕ) (pool : PoolRecord) (lists : List (List ValueContent)) where
  grounds_from : (o : Option PendingQuery) (n : ℕ) → place_of name pool.pending ≡ Some n → slice_get pool.pending n ≡ o
      → option_map (λ (p : PendingQuery). groundings_of p.query.body pool.tables.rows) o ≡ Some lists → Grounds name pool lists
  grounds_from None n at there e = cc
  grounds_from (Some p) n at there e = record { query = p.query; named = named_at name pool.pending n p at there; are = cc }

  grounds_at : (place : Option ℕ) → place_of name pool.pending ≡ place → option_and_then (slice_get (all_groundings pool)) place ≡ Some lists → Grounds name pool lists
  grounds_at None at e = cc
  grounds_at (Some n) at e = grounds_from (slice_get pool.pending n) n at refl (sym (slice_get-map (λ (p : PendingQuery). groundings_of p.query.body pool.tables.rows) pool.pending n) ∙ e)

  pub grounds : groundings_named name pool ≡ Some lists → Grounds name pool lists
  grounds e = grounds_at (place_of name pool.pending) refl e

-- the values are among the groundings exactly where the choice is grounded
pub grounded_tells : (choice : ChoiceRecord) (pool : PoolRecord) (lists : List (List ValueContent)) → groundings_named choice.name pool ≡ Some lists
    → ((body : List AtomRecord) (rows : List RowRecord) → AreGroundings body rows lists ↔ (lists ≡ groundings_of body rows))
    → Contains lists choice.values ↔ IsGrounded pool choice
grounded_tells choice pool lists e listed =
    let g = grounds choice.name pool lists e in
    let are = (listed g.query.body pool.tables.rows).1 g.are in (
      λ h. record { query = g.query; pending = g.named; grounding = (are.exactly choice.values).0 h },
      λ k. let same : k.query ≡ g.query = same_Some k.query g.query (sym k.pending ∙ g.named) in
          (are.exactly choice.values).1 (subst (λ (q : QueryRecord). IsGrounding q.body pool.tables.rows choice.values) same k.grounding),
    )

-- a name without groundings is no pending query's
module _ (name : List ℕ) (pool : PoolRecord) (query : QueryRecord) where
  none-from : (o : Option PendingQuery) (n : ℕ) → slice_get pool.pending n ≡ o → None ≡ slice_get (all_groundings pool) n → option_map (λ (p : PendingQuery). p.query) o ≡ Some query → ⊥
  none-from None n there e h = cc
  none-from (Some p) n there e h =
      let never : None ≡ Some (groundings_of p.query.body pool.tables.rows) =
      e ∙ slice_get-map (λ (q : PendingQuery). groundings_of q.query.body pool.tables.rows) pool.pending n ∙ ap (option_map (λ (q : PendingQuery). groundings_of q.query.body pool.tables.rows)) there in
      cc

  none-at : (place : Option ℕ) → None ≡ option_and_then (slice_get (all_groundings pool)) place → option_and_then (λ k. option_map (λ (p : PendingQuery). p.query) (slice_get pool.pending k)) place ≡ Some query → ⊥
  none-at None e h = cc
  none-at (Some n) e h = none-from (slice_get pool.pending n) n refl e h

  pub ungrounded : None ≡ groundings_named name pool → query_named name pool.pending ≡ Some query → ⊥
  ungrounded e h = none-at (place_of name pool.pending) e h
