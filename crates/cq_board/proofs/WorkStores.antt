-- The work that the stores count is that of the pending queries.
use Rattle.std.proofs.Common.{◌≡◌, ℕ, ◌+◌, Bool, cond, nat_eq, List, [], ◌∷◌, ◌++◌, map, filter, count_by, None, refl, sym, ap, subst, ◌∙◌}
use Rattle.std.specs.Prelude.{option_map}
use Rattle.std.specs.List.{IsDistinct, sum_by, flat_map}
use Rattle.std.specs.Map.{lookup, keys_of}
use Rattle.std.specs.Ordering.{nat_cmp}
use Rattle.std.specs.FinMap.{FinMap, get, insert, entries}
use Rattle.std.specs.Set.{is_member}
use Rattle.std.proofs.lemmas.List.Sums.{sum_by-cons, sum_by-append, sum_by_push, length-filter}
use Rattle.std.proofs.lemmas.Map.Made.{lookup-map_values}
use Rattle.std.proofs.Math.ListN.{length-map}
use Rattle.cq_atom.specs.Atom.{AtomRecord, RowRecord}
use Rattle.cq_atom.specs.Query.{QueryRecord}
use Rattle.cq_ground.specs.Grounding.{reads}
use Rattle.cq_roster.specs.Roster.{SeatRecord}
use Rattle.cq_grounded.specs.Grounded as grounded
use Rattle.cq_grounded.specs.Grounded.{GroundedRecord, GroundedMap, found}
use Rattle.cq_index.specs.Index.{is_candidate}
use Rattle.cq_links.specs.Links.{LinkMap, Ends, ends_of, all_heads, all_posts, candidate_pairs}
use Rattle.cq_match.specs.Matcher.{MatcherRecord}
use Rattle.cq_rel.specs.Tables.{TablesRecord}
use Rattle.cq_board.specs.declared.limits.Limits.{Limits}
use Rattle.cq_board.specs.Pool.{PendingQuery, PoolRecord}
use Rattle.cq_board.specs.Work.{heads_of, posts_of, candidates, named, raised}
use Rattle.cq_board.specs.Steps.Residents.{Resident, places_of, queries_of}
use Rattle.cq_board.specs.Steps.Stores.{residents_of, pending_of, StoresRecord, AreStores, IsKeptIn}
use Rattle.cq_board.proofs.KeptIn.{pool_of}
use Rattle.cq_board.proofs.Linked.{map_posted}
use Rattle.cq_board.proofs.Upkeep.{places_posted, queries_posted}
use Rattle.cq_board.proofs.Stored.{places-seated, free-resident}
use Rattle.cq_board.proofs.WorkCounts.{total-same}

-- ---- what a map has of each resident adds up

module _ {E : Type 0} (v : PendingQuery → E) where
  abbrev brought : List Resident → List (ℕ × E)
  brought residents = map (λ r. (r.0, v r.1)) residents

  brought-keys : (residents : List Resident) → keys_of (brought residents) ≡ places_of residents
  brought-keys [] = refl
  brought-keys (r ∷ residents) = ap (λ (l : List ℕ). r.0 ∷ l) (brought-keys residents)

  brought-total : (g : E → ℕ) (residents : List Resident) → sum_by (λ (e : ℕ × E). g e.1) (brought residents) ≡ sum_by (λ q. g (v q)) (queries_of residents)
  brought-total g [] = refl
  brought-total g (r ∷ residents) =
      sum_by-cons (λ (e : ℕ × E). g e.1) (r.0, v r.1) (brought residents) ∙ ap (λ (n : ℕ). g (v r.1) + n) (brought-total g residents) ∙ sym (sum_by-cons (λ q. g (v q)) r.1 (queries_of residents))

  total-residents : (g : E → ℕ) (m : FinMap nat_cmp E) (residents : List Resident) → IsDistinct nat_eq (places_of residents) → ((p : ℕ) → get m p ≡ option_map v (lookup (nat_eq p) residents))
      → sum_by (λ (e : ℕ × E). g e.1) (entries m) ≡ sum_by (λ q. g (v q)) (queries_of residents)
  total-residents g m residents distinct same =
      total-same g m (brought residents) (subst (λ (ks : List ℕ). IsDistinct nat_eq ks) (sym (brought-keys residents)) distinct) (λ p. same p ∙ sym (lookup-map_values v (nat_eq p) residents)) ∙ brought-total g residents

count-flat_map : {X : Type 0} (test : AtomRecord → Bool) (f : X → List AtomRecord) (xs : List X) → count_by test (flat_map f xs) ≡ sum_by (λ x. count_by test (f x)) xs
count-flat_map test f [] = refl
count-flat_map test f (x ∷ xs) =
    sum_by-append (λ a. cond (test a) 1 0) (f x) (flat_map f xs) ∙ ap (λ (n : ℕ). count_by test (f x) + n) (count-flat_map test f xs) ∙ sym (sum_by-cons (λ y. count_by test (f y)) x xs)

module _ (content : StoresRecord) (rows : List RowRecord) (stores : AreStores content rows) where
  distinct : IsDistinct nat_eq (places_of (residents_of content))
  distinct = subst (λ (places : List ℕ). IsDistinct nat_eq places) (sym (places-seated content.seats content.grounded)) stores.roster.places

  -- The queries that name a relation are as many in the stores as among the pending ones.
  pub named-kept : (relation : List ℕ) → grounded.named content.grounded relation ≡ named (pending_of content) relation
  named-kept relation =
      let test : ℕ × GroundedRecord → Bool = λ e. reads e.1.query.body relation in
      length-map (filter test (entries content.grounded)) (λ (e : ℕ × GroundedRecord). e.0) ∙ length-filter test (entries content.grounded)
      ∙ total-residents (λ q. found rows q.query) (λ f. cond (reads f.query.body relation) 1 0) content.grounded (residents_of content) distinct stores.stand

  -- The same of what is waited for.
  posts-kept : (test : AtomRecord → Bool) → count_by test (all_posts content.links) ≡ count_by test (posts_of (pending_of content))
  posts-kept test =
      count-flat_map test (λ (e : ℕ × Ends). e.1.posts) (entries content.links)
      ∙ total-residents (λ q. ends_of q.query) (λ ends. count_by test ends.posts) content.links (residents_of content) distinct stores.linked
      ∙ sym (count-flat_map test (λ (q : PendingQuery). q.query.posts) (pending_of content))

  module _ (place : ℕ) (free : get content.grounded place ≡ None) (name : List ℕ) (query : QueryRecord) where
    abbrev newcomer : Resident
    newcomer = (place, (record { name = name; query = query }))

    none : is_member nat_eq (places_of (residents_of content)) place ≡ Bool.false
    none = free-resident content rows stores place free

    -- The same of what is offered, where one more has come.
    heads-kept : (test : AtomRecord → Bool) → count_by test (all_heads (insert content.links place (ends_of query))) ≡ count_by test (heads_of (pending_of content) ++ query.heads)
    heads-kept test =
        let each : PendingQuery → ℕ = λ q. count_by test q.query.heads in
        count-flat_map test (λ (e : ℕ × Ends). e.1.heads) (entries (insert content.links place (ends_of query)))
        ∙ total-residents (λ q. ends_of q.query) (λ ends. count_by test ends.heads) (insert content.links place (ends_of query)) (residents_of content ++ newcomer ∷ []) (places_posted (residents_of content) newcomer distinct none)
        (map_posted (λ q. ends_of q.query) content.links (residents_of content) stores.linked newcomer none)
        ∙ ap (sum_by each) (queries_posted (residents_of content) newcomer)
        ∙ sum_by_push each (pending_of content) newcomer.1
        ∙ ap (λ (n : ℕ). n + count_by test query.heads) (sym (count-flat_map test (λ (q : PendingQuery). q.query.heads) (pending_of content)))
        ∙ sym (sum_by-append (λ a. cond (test a) 1 0) (heads_of (pending_of content)) query.heads)

    -- The pairs that the stores test with a new query are those that it makes with the pending ones and with itself.
    pub pairs-kept : candidate_pairs content.links place (ends_of query) ≡ candidates (pending_of content) query
    pairs-kept = λ i. sum_by (λ post. heads-kept (is_candidate post) i) query.posts + sum_by (λ head. posts-kept (is_candidate head) i) query.heads

-- ---- what is counted of an edit of a row

module _ (limits : Limits) (tables : TablesRecord) (content : StoresRecord) (kept : IsKeptIn (pool_of limits tables (pending_of content)) content)
    (seen : PoolRecord) (view : pool_of limits tables (pending_of content) ≡ seen) where
  named-seen : (relation : List ℕ) → grounded.named content.grounded relation ≡ named seen.pending relation
  named-seen relation = named-kept content tables.rows kept.stores relation ∙ ap (λ (p : PoolRecord). named p.pending relation) view

  pub visits-seen : (relation : List ℕ) (old new : ℕ) → new ≡ raised old (grounded.named content.grounded relation) → new ≡ raised old (named seen.pending relation)
  visits-seen relation old new is = is ∙ ap (raised old) (named-seen relation)
