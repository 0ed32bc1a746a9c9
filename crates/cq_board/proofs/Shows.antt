-- The edges of a graph by the numbers of their ends, as loops over places and edges make them.
use Rattle.std.proofs.Common.{◌≡◌, ℕ, ◌+◌, ◌<◌, ◌≤◌, Bool, false, None, Some, List, [], ◌∷◌, ◌++◌, length, map, take, drop, get_or, position, refl, sym, ap, subst, ◌∙◌, inl, inr, arith, append-nil, append_assoc}
use Rattle.std.specs.Prelude.{nat_lt, nat_eq, filter, Result, Ok, Err, OnOk}
use Rattle.std.specs.List.{All, Contains, IsDistinct, position_or_len, flat_map, list_any}
use Rattle.std.specs.List.Sorted.{IsPermutation, IsSorted}
use Rattle.std.proofs.lemmas.Bool.{ltb-false, eqb-true}
use Rattle.std.proofs.lemmas.Bool.Decides.{Decides-eqb}
use Rattle.std.proofs.lemmas.Grind.{flat_map-append}
use Rattle.std.proofs.lemmas.List.{take_more}
use Rattle.std.proofs.lemmas.List.Sums.{prefix_len-le-length}
use Rattle.std.proofs.lemmas.List.Sorted.{IsPermutation-trans, IsPermutation-map, IsPermutation-append_left, IsPermutation-append_right}
use Rattle.indexmap.specs.IndexSet.{insert_key}
use Rattle.cq_atom.specs.Atom.{RowRecord}
use Rattle.cq_roster.specs.Roster.{SeatRecord}
use Rattle.cq_grounded.specs.Grounded.{GroundedMap}
use Rattle.cq_links.specs.Links.{LinkMap}
use Rattle.cq_atom.specs.declared.edge.Edge.{Edge}
use Rattle.cq_match.specs.Matcher.{MatcherRecord, leaves}
use Rattle.cq_board.specs.Edges.{edges_of}
use Rattle.cq_board.specs.Steps.Residents.{places_of, renamed, edge_cmp}
use Rattle.cq_board.specs.Steps.Stores.{StoresRecord, AreStores, able_over, residents_at, residents_of, pending_of, number_of}
use Rattle.cq_board.proofs.Leaving.{leaving-permuted, graph_provider_known}
use Rattle.cq_board.proofs.Members.{by_bool, In, In-right, any_gives}
use Rattle.cq_board.proofs.Pairwise.{Pairwise, Differ, distinct-differ}
use Rattle.cq_board.proofs.Places.{drop-at}
use Rattle.cq_board.proofs.Sorted.{numbered-edges}

module _ {X : Type 0} (p : X → Bool) (xs : List X) where
  at-most : position_or_len p xs ≤ length xs
  at-most = prefix_len-le-length _ xs

  -- where no element is found, its position is the length
  pub position-none : position p xs ≡ None → position_or_len p xs ≡ length xs
  position-none e =
      by_bool (nat_lt (position_or_len p xs) (length xs)) (position_or_len p xs ≡ length xs)
      (λ t. absurd (let some : position p xs ≡ Some (position_or_len p xs) = rw t refl in let never : None ≡ Some (position_or_len p xs) = sym e ∙ some in cc))
      (λ f. let past = ltb-false (position_or_len p xs) (length xs) f in let most = at-most in omega arith)

-- ---- places that are inserted one after another

apart-after : {X : Type 0} (xs ys : List X) (x : X) → Pairwise Differ (xs ++ x ∷ ys) → (y : X) → In y xs → Differ y x
apart-after [] ys x h y m = absurd m
apart-after (z ∷ xs) ys x h y (inl s) = λ e. h.0 x (In-right x xs (x ∷ ys) (inl refl)) (sym s ∙ e)
apart-after (z ∷ xs) ys x h y (inr k) = apart-after xs ys x h.1 y k

map-itself : (xs : List ℕ) → map (λ x. x) xs ≡ xs
map-itself [] = refl
map-itself (x ∷ xs) = ap (λ ys. x ∷ ys) (map-itself xs)

distinct-apart : (xs : List ℕ) → IsDistinct nat_eq xs → Pairwise Differ xs
distinct-apart xs distinct = distinct-differ nat_eq Decides-eqb (λ (n : ℕ). n) xs (subst (IsDistinct nat_eq) (sym (map-itself xs)) distinct)

-- a number is new where all are distinct
fresh : (now after : List ℕ) (n : ℕ) → IsDistinct nat_eq (now ++ n ∷ after) → list_any (nat_eq n) now ≡ false
fresh now after n distinct =
    by_bool (list_any (nat_eq n) now) (list_any (nat_eq n) now ≡ false)
    (λ t. let found = any_gives (nat_eq n) now t in absurd (apart-after now after n (distinct-apart (now ++ n ∷ after) distinct) found.0 found.1 (sym (eqb-true n found.0 found.2))))
    (λ f. f)

module _ {X : Type 0} (f : X → ℕ) (xs : List X) (whole : List ℕ) where
  -- one more place goes in, and those that are still to come are one less
  pub inserted-more : (now next : List ℕ) (i : ℕ) (x : X) → IsDistinct nat_eq whole → i < length xs → x ≡ get_or xs i x → now ++ map f (drop i xs) ≡ whole → next ≡ insert_key nat_eq now (f x)
      → next ++ map f (drop (i + 1) xs) ≡ whole
  inserted-more now next i x distinct low is so_far made =
      let after = map f (drop (i + 1) xs) in
      let split : now ++ f x ∷ after ≡ whole = ap (λ ys. now ++ map f ys) (sym (drop-at xs i x low is)) ∙ so_far in
      let new : list_any (nat_eq (f x)) now ≡ false = fresh now after (f x) (subst (IsDistinct nat_eq) (sym split) distinct) in
      let added : insert_key nat_eq now (f x) ≡ now ++ f x ∷ [] = rw new refl in
      ap (λ ks. ks ++ after) (made ∙ added) ∙ append_assoc now (f x ∷ []) after ∙ split

-- ---- lists that are gathered in any order

-- what follows from a fact of an `Ok`
pub on_ok : {T E : Type 0} {P Q : Type 0} → (P → Q) → (r : Result T E) → OnOk r P → OnOk r Q
on_ok f (Ok x) h = f h
on_ok f (Err e) h = tt

-- a permutation of elements, after others
pub mapped-behind : {X Y : Type 0} (g : X → Y) (before next : List Y) (xs ys zs : List X) → IsPermutation xs ys → zs ≡ ys → next ≡ before ++ map g zs → IsPermutation (before ++ map g xs) next
mapped-behind g before next xs ys zs moved same made =
    subst (IsPermutation (before ++ map g xs)) (sym (made ∙ ap (λ l. before ++ map g l) same))
    (IsPermutation-append_right before (map g xs) (map g ys) (IsPermutation-map g xs ys moved))

-- one more list is gathered, after others
pub gathered-behind : {X Y : Type 0} (f : X → List Y) (before now next : List Y) (xs : List X) (i : ℕ) (d : X) → i < length xs → IsPermutation (before ++ flat_map f (take i xs)) now
    → IsPermutation (now ++ f (get_or xs i d)) next → IsPermutation (before ++ flat_map f (take (i + 1) xs)) next
gathered-behind f before now next xs i d low so_far made =
    let x = get_or xs i d in
    let more : flat_map f (take i xs) ++ f x ≡ flat_map f (take (i + 1) xs) =
    ap (λ ys. flat_map f (take i xs) ++ ys) (sym (append-nil (f x))) ∙ sym (flat_map-append f (take i xs) (x ∷ [])) ∙ ap (flat_map f) (sym (take_more xs i d low)) in
    subst (λ ys. IsPermutation ys next) (append_assoc before (flat_map f (take i xs)) (f x) ∙ ap (λ ys. before ++ ys) more)
    (IsPermutation-trans ((before ++ flat_map f (take i xs)) ++ f x) (now ++ f x) next (IsPermutation-append_left (f x) (before ++ flat_map f (take i xs)) now so_far) made)

-- the lists of all places, gathered after nothing, are all edges
pub all-numbered : {Y : Type 0} (g : Edge → Y) (places : List ℕ) (edges : List Edge) (first next : List Y) → All (λ (e : Edge). Contains places e.provider) edges → IsDistinct nat_eq places
    → first ≡ [] → IsPermutation (first ++ flat_map (λ p. map g (filter (leaves p) edges)) places) next → IsPermutation (map g edges) next
all-numbered {Y} g places edges first next known distinct none made =
    let each : List Y = flat_map (λ p. map g (filter (leaves p) edges)) places in
    IsPermutation-trans (map g edges) each next (leaving-permuted g places distinct edges known) (subst (λ (ys : List Y). IsPermutation (ys ++ each) next) none made)

-- ---- the edges that a board shows

places-read : {X : Type 0} (seat : X → SeatRecord) (xs : List X) → map (λ x. (seat x).place) xs ≡ map (λ s. s.place) (map seat xs)
places-read seat [] = refl
places-read seat (x ∷ xs) = ap (λ ns. (seat x).place ∷ ns) (places-read seat xs)

-- the places of seats that are read one by one
pub seats-read : {X : Type 0} (xs ys : List X) (seat : X → SeatRecord) (seats : List SeatRecord) → xs ≡ ys → map seat ys ≡ seats → map (λ x. (seat x).place) xs ≡ map (λ (s : SeatRecord). s.place) seats
seats-read xs ys seat seats same read = places-read seat xs ∙ ap (λ l. map (λ (s : SeatRecord). s.place) (map seat l)) same ∙ ap (map (λ (s : SeatRecord). s.place)) read

-- the places of seats are those of their residents
places-seated : (seats : List SeatRecord) (grounded : GroundedMap) → map (λ (s : SeatRecord). s.place) seats ≡ places_of (residents_at seats grounded)
places-seated [] grounded = refl
places-seated (s ∷ seats) grounded = ap (λ ns. s.place ∷ ns) (places-seated seats grounded)

module _ (content : StoresRecord) (rows : List RowRecord) (stores : AreStores content rows) where
  -- The edges by the numbers of the seats' places, sorted, are those of the pending queries.
  pub shown-edges : (places : List ℕ) → places ≡ map (λ (s : SeatRecord). s.place) content.seats → (numbered shown : List Edge)
      → (All (λ (e : Edge). Contains places e.provider) content.matcher.edges → IsDistinct nat_eq places → IsPermutation (map (renamed (number_of places)) content.matcher.edges) numbered)
      → IsPermutation numbered shown → IsSorted edge_cmp shown → shown ≡ edges_of (pending_of content)
  shown-edges places are numbered shown made moved sorted =
      let residents = residents_of content in
      let same : places ≡ places_of residents = are ∙ places-seated content.seats content.grounded in
      let distinct : IsDistinct nat_eq (places_of residents) = subst (IsDistinct nat_eq) (places-seated content.seats content.grounded) stores.roster.places in
      let Numbered : List ℕ → Type 0 =
      λ ns. All (λ (e : Edge). Contains ns e.provider) content.matcher.edges → IsDistinct nat_eq ns → IsPermutation (map (renamed (number_of ns)) content.matcher.edges) numbered in
      let all = subst Numbered same made (graph_provider_known (able_over rows) residents content.matcher.nodes content.matcher.edges stores.graph) distinct in
      numbered-edges (able_over rows) residents distinct content.matcher.nodes content.matcher.edges stores.graph shown
      (IsPermutation-trans (map (renamed (number_of (places_of residents))) content.matcher.edges) numbered shown all moved) sorted
