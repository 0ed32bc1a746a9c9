-- Residents by their names: what is found by a name at a place is what is found at a position.
use Rattle.std.proofs.Common.{false, true, ◌≡◌, ℕ, ◌+◌, ◌<◌, ◌⊎◌, inl, inr, Bool, not, ltb, List, [], ◌∷◌, length, map, refl, sym, ap, ◌∙◌, Option, Some, None, if◌then◌else◌, eq-eqb, suc, zero, count_by, subst, ◌&&◌}
use Rattle.std.specs.Prelude.{nat_eq, option_map, find, filter}
use Rattle.std.specs.List.{IsDistinct, slice_get, position_or_len}
use Rattle.std.specs.Option.{option_and_then, option_map_or}
use Rattle.std.specs.Str.{bytes_eq}
use Rattle.std.proofs.Math.ListN.{length-map}
use Rattle.std.proofs.lemmas.Bool.{ltb-true, ltb-false, eqb-true}
use Rattle.std.proofs.lemmas.List.Folds.{find_at}
use Rattle.std.proofs.lemmas.Option.{slice_get_past, slice_get-map, get_or_from_slice_get}
use Rattle.std.proofs.lemmas.Slice.Eq.{bytes_eq-Decides}
use Rattle.cq_atom.specs.declared.edge.Edge.{Edge}
use Rattle.cq_match.specs.Matched.{is_matched, numbers}
use Rattle.cq_board.specs.Pool.{PendingQuery, PoolRecord, name_of}
use Rattle.cq_board.specs.Edits.{is_named}
use Rattle.cq_board.specs.Board.{place_of, is_matched_at, name_at, name_or_none}
use Rattle.cq_board.specs.Named.{matched_named}
use Rattle.cq_board.specs.Steps.Residents.{Resident, places_of, queries_of, place_at, place_in, IsGraphOf, all_but}
use Rattle.cq_board.specs.Steps.Stores.{able_over}
use Rattle.cq_board.proofs.Members.{by_bool, In, any_gives, any_has, In-map_gives, In-filter, In-filter_gives}
use Rattle.cq_board.proofs.Pairwise.{Pairwise, Differ, distinct-differ, same-key, Pairwise-filter}
use Rattle.cq_board.proofs.Graphs.{graph_matched_at, graph_counted}
use Rattle.cq_board.proofs.Placed.{slice_get-some, residents_withdrawn, map-map}
use Rattle.std.specs.Set.{is_member}
use Rattle.std.proofs.lemmas.Bool.Decides.{Decides-eqb}
use Rattle.cq_match.proofs.CallerLemmas.{matched-known}
use Rattle.cq_board.specs.Edges.{edges_of}
use Rattle.cq_board.proofs.Among.{In-Contains}
use Rattle.cq_board.proofs.Upkeep.{places_withdrawn, graph_has}

first-mapped : {X Y : Type 0} (p : Y → Bool) (f : X → Y) (xs : List X) → position_or_len p (map f xs) ≡ position_or_len (λ x. p (f x)) xs
first-mapped p f [] = refl
first-mapped p f (x ∷ xs) = ap (λ (n : ℕ). if not (p (f x)) then 1 + n else 0) (first-mapped p f xs)

-- what a name finds: a resident and its position, or none
pub record Called (name : List ℕ) (residents : List Resident) : Type 0 where
  pub at : ℕ
  pub r : Resident
  pub low : at < length residents
  pub there : slice_get residents at ≡ Some r
  pub is_found : find (λ x. is_named name x.1) residents ≡ Some r
  pub is_at : place_of name (queries_of residents) ≡ Some at

abbrev Uncalled : List ℕ → List Resident → Type 0
Uncalled name residents = (find (λ x. is_named name x.1) residents ≡ None) × (place_of name (queries_of residents) ≡ None)

called : (name : List ℕ) (residents : List Resident) → Called name residents ⊎ Uncalled name residents
called name residents =
    let test : Resident → Bool = λ x. is_named name x.1 in
    let k = position_or_len test residents in
    let same : position_or_len (is_named name) (queries_of residents) ≡ k = first-mapped (is_named name) (λ (x : Resident). x.1) residents in
    let len : length (queries_of residents) ≡ length residents = length-map residents (λ (x : Resident). x.1) in
    let at : find test residents ≡ slice_get residents k = find_at test residents in
    by_bool (ltb k (length residents)) (Called name residents ⊎ Uncalled name residents)
    (λ t.
    let low = ltb-true k (length residents) t in
    let found = slice_get-some residents k low in
    let is : place_of name (queries_of residents) ≡ Some k = rw (same, len, t) refl in
    inl (record { at = k; r = found.0; low = low; there = found.1; is_found = at ∙ found.1; is_at = is }))
    (λ f.
    let none : place_of name (queries_of residents) ≡ None = rw (same, len, f) refl in
    inr (at ∙ slice_get_past residents k (ltb-false k (length residents) f), none))

module _ (residents : List Resident) where
  called-place : (name : List ℕ) (c : Called name residents) → place_at residents c.at ≡ c.r.0
  called-place name c = get_or_from_slice_get (places_of residents) c.at c.r.0 0 (slice_get-map (λ (x : Resident). x.0) residents c.at ∙ ap (option_map (λ (x : Resident). x.0)) c.there)

  -- A test of what a name finds at its place is that at its position.
  pub called_tested : {Y : Type 0} (at_position at_place : ℕ → Y) → ((i : ℕ) → i < length residents → at_place (place_at residents i) ≡ at_position i) → (name : List ℕ)
      → option_map at_position (place_of name (queries_of residents)) ≡ option_map at_place (place_in name residents)
  called_tested at_position at_place same name =
      elim (called name residents) [
        | inl c ↦
            ap (option_map at_position) c.is_at ∙ ap Some (sym (same c.at c.low) ∙ ap at_place (called-place name c))
            ∙ sym (ap (λ (o : Option Resident). option_map at_place (option_map (λ r. r.0) o)) c.is_found)
        | inr n ↦ ap (option_map at_position) n.1 ∙ sym (ap (λ (o : Option Resident). option_map at_place (option_map (λ r. r.0) o)) n.0)
      ]

  -- What a list made of the queries has at a name's position is made of the resident with that name.
  pub called_made : {Y : Type 0} (g : PendingQuery → Y) (name : List ℕ)
      → option_and_then (slice_get (map g (queries_of residents))) (place_of name (queries_of residents)) ≡ option_map (λ r. g r.1) (find (λ r. is_named name r.1) residents)
  called_made g name =
      elim (called name residents) [
        | inl c ↦
            ap (option_and_then (slice_get (map g (queries_of residents)))) c.is_at ∙ slice_get-map g (queries_of residents) c.at
            ∙ ap (option_map g) (slice_get-map (λ (x : Resident). x.1) residents c.at ∙ ap (option_map (λ (x : Resident). x.1)) c.there)
            ∙ sym (ap (option_map (λ (r : Resident). g r.1)) c.is_found)
        | inr n ↦ ap (option_and_then (slice_get (map g (queries_of residents)))) n.1 ∙ sym (ap (option_map (λ (r : Resident). g r.1)) n.0)
      ]

  module _ (pool : PoolRecord) (distinct : IsDistinct nat_eq (places_of residents)) (nodes : List (ℕ × ℕ × Bool)) (edges : List Edge) (graph : IsGraphOf (able_over pool.tables.rows) residents nodes edges) where
    -- Whether the query of a name is matched, where those are able that are so over the rows of a pool.
    pub matched_called : (name : List ℕ) → matched_named name (record pool { pending = queries_of residents }) ≡ option_map (is_matched nodes edges) (place_in name residents)
    matched_called name =
        called_tested (is_matched_at (record pool { pending = queries_of residents })) (is_matched nodes edges) (λ i low. graph_matched_at pool residents distinct nodes edges graph i low) name

abbrev pub OwnNames : List Resident → Type 0
OwnNames residents = Pairwise (λ (x y : Resident). Differ x.1.name y.1.name) residents

-- A resident is found by its name, where each has a name of its own.
pub found_called : (residents : List Resident) → OwnNames residents → (r : Resident) → In r residents → find (λ x. is_named r.1.name x.1) residents ≡ Some r
found_called [] h r m = absurd m
found_called (x ∷ residents) h r (inl e) =
    let t : is_named r.1.name x.1 ≡ true = (bytes_eq-Decides r.1.name x.1.name).1 (ap (λ (y : Resident). y.1.name) e) in
    rw t (ap Some (sym e))
found_called (x ∷ residents) h r (inr m) =
    by_bool (is_named r.1.name x.1) (find (λ y. is_named r.1.name y.1) (x ∷ residents) ≡ Some r)
    (λ t. absurd (h.0 r m (sym ((bytes_eq-Decides r.1.name x.1.name).0 t))))
    (λ f. rw f (found_called residents h.1 r m))

pub own_names : (residents : List Resident) → IsDistinct bytes_eq (map name_of (queries_of residents)) → OwnNames residents
own_names residents named =
    distinct-differ bytes_eq bytes_eq-Decides (λ (x : Resident). x.1.name) residents (subst (IsDistinct bytes_eq) (map-map name_of (λ (x : Resident). x.1) residents) named)

-- the place that a list with a seat for each resident has under a name
pub place_seated : {S : Type 0} (seat : Resident → S) (place : S → ℕ) (test : S → Bool) (name : List ℕ) → ((r : Resident) → place (seat r) ≡ r.0) → ((r : Resident) → test (seat r) ≡ is_named name r.1)
    → (residents : List Resident) → option_map place (find test (map seat residents)) ≡ place_in name residents
place_seated seat place test name same_place same_test [] = refl
place_seated seat place test name same_place same_test (r ∷ residents) =
    let rest = place_seated seat place test name same_place same_test residents in
    by_bool (is_named name r.1) (option_map place (find test (map seat (r ∷ residents))) ≡ place_in name (r ∷ residents))
    (λ t. let here : test (seat r) ≡ true = same_test r ∙ t in rw (t, here) (ap Some (same_place r)))
    (λ f. let here : test (seat r) ≡ false = same_test r ∙ f in rw (f, here) rest)

-- ---- a query that has gone

left-out : (p : Resident → Bool) (residents : List Resident) → find p (filter (λ x. not (p x)) residents) ≡ None
left-out p [] = refl
left-out p (x ∷ residents) =
    by_bool (p x) (find p (filter (λ y. not (p y)) (x ∷ residents)) ≡ None) (λ t. rw t (left-out p residents)) (λ f. rw (f, f) (left-out p residents))

-- matched, where there is one to be matched
abbrev pub and_there : Option Bool → Bool
and_there o = option_map_or (λ b. b) o false

-- In the graph of those that are left, the place that was left is not matched.
pub gone_unmatched : (able : Resident → Bool) (p : ℕ) (residents : List Resident) (nodes : List (ℕ × ℕ × Bool)) (edges : List Edge) → IsGraphOf able (all_but p residents) nodes edges → is_matched nodes edges p ≡ false
gone_unmatched able p residents nodes edges graph =
    let rest = all_but p residents in
    by_bool (is_matched nodes edges p) (is_matched nodes edges p ≡ false)
    (λ t.
    let known = In-Contains (numbers nodes) p (matched-known nodes edges p t) in
    let member : is_member nat_eq (places_of rest) p ≡ true = sym (graph_has able rest nodes edges graph p) ∙ any_has (nat_eq p) (numbers nodes) p known (eq-eqb p p refl) in
    let place = any_gives (nat_eq p) (places_of rest) member in
    let of = In-map_gives (λ (x : Resident). x.0) rest place.0 place.1 in
    let apart : not (nat_eq of.0.0 p) ≡ true = In-filter_gives (λ (x : Resident). not (nat_eq x.0 p)) residents of.0 of.1 in
    let is : nat_eq of.0.0 p ≡ true = eq-eqb of.0.0 p (sym of.2 ∙ sym (eqb-true p place.0 place.2)) in
    absurd (let never : false ≡ true = sym (ap not is) ∙ apart in cc))
    (λ f. f)

module _ (residents : List Resident) (distinct : IsDistinct nat_eq (places_of residents)) (named : IsDistinct bytes_eq (map name_of (queries_of residents))) where
  -- A test at the place of a resident is that at the position of its name.
  pub stay_tested : (at_position at_place : ℕ → Bool) → ((i : ℕ) → i < length residents → at_place (place_at residents i) ≡ at_position i)
      → (x : Resident) → In x residents → at_place x.0 ≡ and_there (option_map at_position (place_of x.1.name (queries_of residents)))
  stay_tested at_position at_place same x m =
      sym (ap and_there (called_tested residents at_position at_place same x.1.name
      ∙ ap (λ (o : Option Resident). option_map at_place (option_map (λ y. y.0) o)) (found_called residents (own_names residents named) x m)))

  -- Whoever is there is matched at its place exactly where it is by its name, where those are able that are so over the rows of a pool.
  pub matched_there : (pool : PoolRecord) (nodes : List (ℕ × ℕ × Bool)) (edges : List Edge) → IsGraphOf (able_over pool.tables.rows) residents nodes edges
      → (x : Resident) → In x residents → is_matched nodes edges x.0 ≡ and_there (matched_named x.1.name (record pool { pending = queries_of residents }))
  matched_there pool nodes edges graph =
      stay_tested (is_matched_at (record pool { pending = queries_of residents })) (is_matched nodes edges) (λ i low. graph_matched_at pool residents distinct nodes edges graph i low)

  module _ (r : Resident) (there : In r residents) where
    abbrev rest : List Resident
    rest = all_but r.0 residents

    -- The same of those that were there, where one has gone, whose place does not pass.
    pub left_tested : (at_position at_place : ℕ → Bool) → ((i : ℕ) → i < length rest → at_place (place_at rest i) ≡ at_position i) → at_place r.0 ≡ false
        → (x : Resident) → In x residents → at_place x.0 ≡ and_there (option_map at_position (place_of x.1.name (queries_of rest)))
    left_tested at_position at_place same fails x m =
        let goal : Resident → Type 0 = λ y. at_place y.0 ≡ and_there (option_map at_position (place_of y.1.name (queries_of rest))) in
        by_bool (nat_eq x.0 r.0) (goal x)
        (λ t.
        let one : x ≡ r = same-key (λ (y : Resident). y.0) residents (distinct-differ nat_eq Decides-eqb (λ (y : Resident). y.0) residents distinct) x r m there (eqb-true x.0 r.0 t) in
        let none : find (λ y. is_named r.1.name y.1) rest ≡ None = ap (find (λ y. is_named r.1.name y.1)) (residents_withdrawn residents distinct r there named) ∙ left-out (λ y. is_named r.1.name y.1) residents in
        let gone : option_map at_position (place_of r.1.name (queries_of rest)) ≡ None =
        called_tested rest at_position at_place same r.1.name ∙ ap (λ (o : Option Resident). option_map at_place (option_map (λ y. y.0) o)) none in
        subst goal (sym one) (fails ∙ sym (ap and_there gone)))
        (λ f.
        let stays : In x rest = In-filter (λ (y : Resident). not (nat_eq y.0 r.0)) residents x m (ap not f) in
        let names : OwnNames rest = Pairwise-filter (λ (y z : Resident). Differ y.1.name z.1.name) (λ y. not (nat_eq y.0 r.0)) residents (own_names residents named) in
        sym (ap and_there (called_tested rest at_position at_place same x.1.name ∙ ap (λ (o : Option Resident). option_map at_place (option_map (λ y. y.0) o)) (found_called rest names x stays))))

    -- Where a query has gone, whoever was there is matched at its place exactly where it is by its name among those that are left.
    pub matched_left : (pool : PoolRecord) (nodes : List (ℕ × ℕ × Bool)) (edges : List Edge) → IsGraphOf (able_over pool.tables.rows) (all_but r.0 residents) nodes edges
        → (x : Resident) → In x residents → is_matched nodes edges x.0 ≡ and_there (matched_named x.1.name (record pool { pending = queries_of (all_but r.0 residents) }))
    matched_left pool nodes edges graph =
        left_tested (is_matched_at (record pool { pending = queries_of rest })) (is_matched nodes edges) (λ i low. graph_matched_at pool rest (places_withdrawn r.0 residents distinct) nodes edges graph i low)
        (gone_unmatched (able_over pool.tables.rows) r.0 residents nodes edges graph)

slice_get-In : (xs : List Resident) (i : ℕ) (x : Resident) → slice_get xs i ≡ Some x → In x xs
slice_get-In [] i x e = cc
slice_get-In (y ∷ xs) zero x e = let same : x ≡ y = cc in inl same
slice_get-In (y ∷ xs) (suc i) x e = inr (slice_get-In xs i x e)

-- Edges that have lost their provider are as many by places as by positions and names.
pub lost_counted : (flag : PendingQuery → Bool) (residents : List Resident) (distinct : IsDistinct nat_eq (places_of residents)) (nodes : List (ℕ × ℕ × Bool)) (edges : List Edge)
    → IsGraphOf (λ r. flag r.1) residents nodes edges → (before_place before_position : ℕ → Bool) → ((i : ℕ) → i < length residents → before_place (place_at residents i) ≡ before_position i)
    → (after_place : ℕ → Bool) (after_name : List ℕ → Bool) → ((x : Resident) → In x residents → after_place x.0 ≡ after_name x.1.name)
    → count_by (λ e. before_place e.provider && not (after_place e.provider)) edges
    ≡ count_by (λ e. before_position e.provider && not (after_name (name_or_none (name_at (queries_of residents) e.provider)))) (edges_of (queries_of residents))
lost_counted flag residents distinct nodes edges graph before_place before_position before after_place after_name after =
    graph_counted flag residents distinct nodes edges graph (λ e. before_place e.provider && not (after_place e.provider))
    (λ e. before_position e.provider && not (after_name (name_or_none (name_at (queries_of residents) e.provider))))
    (λ e low also. ap (λ (b : Bool). b && not (after_place (place_at residents e.provider))) (before e.provider low) ∙ ap (λ (b : Bool). before_position e.provider && not b) (at_name e.provider low))
  where
    at_name : (i : ℕ) → i < length residents → after_place (place_at residents i) ≡ after_name (name_or_none (name_at (queries_of residents) i))
    at_name i low =
        let found = slice_get-some residents i low in
        let x = found.0 in
        let place : place_at residents i ≡ x.0 = get_or_from_slice_get (places_of residents) i x.0 0 (slice_get-map (λ (y : Resident). y.0) residents i ∙ ap (option_map (λ (y : Resident). y.0)) found.1) in
        let query : slice_get (queries_of residents) i ≡ Some x.1 = slice_get-map (λ (y : Resident). y.1) residents i ∙ ap (option_map (λ (y : Resident). y.1)) found.1 in
        ap after_place place ∙ after x (slice_get-In residents i x found.1)
        ∙ sym (ap (λ (o : Option PendingQuery). after_name (name_or_none (option_map (λ p. p.name) o))) query)
