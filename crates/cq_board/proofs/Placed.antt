-- What a board shows, from residents and the graph of them: names of the matched, crowds, and edges by names.
use Rattle.std.proofs.Common.{◌≡◌, ℕ, zero, suc, ◌<◌, inl, inr, Bool, true, false, not, List, [], ◌∷◌, ◌++◌, length, map, refl, sym, ap, subst, ◌∙◌, arith, Option, Some, if◌then◌else◌}
use Rattle.std.specs.Prelude.{filter, nat_eq, option_map}
use Rattle.std.specs.List.{IsDistinct, flat_map, enumerate_from, slice_get}
use Rattle.std.specs.Str.{bytes_eq}
use Rattle.std.proofs.Math.ListN.{length-map}
use Rattle.std.proofs.lemmas.List.Folds.{flat_map-map}
use Rattle.std.proofs.lemmas.Option.{slice_get_within}
use Rattle.std.proofs.lemmas.Slice.Eq.{bytes_eq-Decides}
use Rattle.std.proofs.lemmas.Bool.Decides.{Decides-eqb}
use Rattle.cq_atom.specs.declared.edge.Edge.{Edge}
use Rattle.cq_match.specs.Graph.{is_crowd}
use Rattle.cq_match.specs.Matched.{is_matched}
use Rattle.cq_board.specs.declared.link.Crowd.{Crowd}
use Rattle.cq_board.specs.Pool.{PendingQuery, PoolRecord, name_of}
use Rattle.cq_board.specs.Edits.{is_named}
use Rattle.cq_board.specs.Board.{name_at, name_or_none, crowd_if, crowded_of, is_matched_at}
use Rattle.cq_board.specs.Named.{matched_names}
use Rattle.cq_board.specs.Steps.Residents.{Resident, places_of, queries_of, place_at, all_but, crowd_at_place, crowds_among, IsGraphOf}
use Rattle.cq_board.specs.Steps.Stores.{able_over}
use Rattle.cq_board.proofs.Members.{by_bool, In}
use Rattle.cq_board.proofs.Ends.{In-enumerate}
use Rattle.cq_board.proofs.Pairwise.{Pairwise, Differ, distinct-differ, same-key}
use Rattle.cq_board.proofs.Positions.{residents_moved}
use Rattle.cq_board.proofs.Graphs.{graph_matched_at, graph_providers}
use Rattle.cq_board.proofs.Upkeep.{filter-by_map}

-- a position with its query is within
enumerated : (residents : List Resident) (x : Resident) → In x (enumerate_from 0 (queries_of residents)) → x.0 < length residents
enumerated residents x m =
    let low = slice_get_within (queries_of residents) x.0 x.1 (In-enumerate (queries_of residents) x m) in
    let len = length-map residents (λ (r : Resident). r.1) in
    omega arith

map-same : {X Y : Type 0} (f g : X → Y) (xs : List X) → ((x : X) → In x xs → f x ≡ g x) → map f xs ≡ map g xs
map-same f g [] same = refl
map-same f g (x ∷ xs) same = ap (λ y. y ∷ map f xs) (same x (inl refl)) ∙ ap (λ ys. g x ∷ ys) (map-same f g xs (λ y m. same y (inr m)))

pub map-map : {X Y Z : Type 0} (f : Y → Z) (g : X → Y) (xs : List X) → map f (map g xs) ≡ map (λ x. f (g x)) xs
map-map f g [] = refl
map-map f g (x ∷ xs) = ap (λ ys. f (g x) ∷ ys) (map-map f g xs)

pub flat_map-same : {X Y : Type 0} (f g : X → List Y) (xs : List X) → ((x : X) → In x xs → f x ≡ g x) → flat_map f xs ≡ flat_map g xs
flat_map-same f g [] same = refl
flat_map-same f g (x ∷ xs) same = ap (λ ys. ys ++ flat_map f xs) (same x (inl refl)) ∙ ap (λ ys. g x ++ ys) (flat_map-same f g xs (λ y m. same y (inr m)))

filter-same : {X : Type 0} (p q : X → Bool) (xs : List X) → ((x : X) → In x xs → p x ≡ q x) → filter p xs ≡ filter q xs
filter-same p q [] same = refl
filter-same p q (x ∷ xs) same =
    let rest = filter-same p q xs (λ y m. same y (inr m)) in
    by_bool (q x) (filter p (x ∷ xs) ≡ filter q (x ∷ xs))
    (λ t. let here : p x ≡ true = same x (inl refl) ∙ t in rw (t, here) (ap (λ ys. x ∷ ys) rest))
    (λ t. let here : p x ≡ false = same x (inl refl) ∙ t in rw (t, here) rest)

-- ---- tests at places and at positions

module _ (residents : List Resident) (at_position at_place : ℕ → Bool) (same : (i : ℕ) → i < length residents → at_place (place_at residents i) ≡ at_position i) where
  abbrev entries : List Resident
  entries = enumerate_from 0 (queries_of residents)

  abbrev placed : Resident → Resident
  placed x = (place_at residents x.0, x.1)

  filter-placed : map placed (filter (λ x. at_position x.0) entries) ≡ filter (λ r. at_place r.0) residents
  filter-placed =
      filter-by_map placed (λ x. at_position x.0) (λ r. at_place r.0) entries (λ x m. sym (same x.0 (enumerated residents x m)))
      ∙ ap (filter (λ r. at_place r.0)) (residents_moved residents)

  -- The names of queries that pass at their positions are those of residents that pass at their places.
  pub names_placed : map (λ i. name_or_none (name_at (queries_of residents) i)) (filter at_position (map (λ p. p.0) (enumerate_from 0 (queries_of residents)))) ≡ map (λ r. r.1.name) (filter (λ r. at_place r.0) residents)
  names_placed =
      let pending = queries_of residents in
      let name : ℕ → List ℕ = λ i. name_or_none (name_at pending i) in
      let left = filter (λ (x : Resident). at_position x.0) entries in
      ap (map name) (sym (filter-by_map (λ (x : Resident). x.0) (λ x. at_position x.0) at_position entries (λ x m. refl)))
      ∙ map-map name (λ (x : Resident). x.0) left
      ∙ map-same (λ (x : Resident). name x.0) (λ x. x.1.name) left
      (λ x m. ap (λ (o : Option PendingQuery). name_or_none (option_map (λ p. p.name) o)) (In-enumerate pending x (among x entries m)))
      ∙ sym (map-map (λ (r : Resident). r.1.name) placed left)
      ∙ ap (map (λ (r : Resident). r.1.name)) filter-placed
    where
      among : (x : Resident) (xs : List Resident) → In x (filter (λ y. at_position y.0) xs) → In x xs
      among x [] h = absurd h
      among x (y ∷ xs) h =
          by_bool (at_position y.0) (In x (y ∷ xs))
          (λ t. elim (rw t at h) as (λ _. In x (y ∷ xs)) [ inl e ↦ inl e | inr k ↦ inr (among x xs k) ])
          (λ f. inr (among x xs (rw f at h)))

pub slice_get-some : {X : Type 0} (xs : List X) (i : ℕ) → i < length xs → (x : X) × (slice_get xs i ≡ Some x)
slice_get-some [] i low = absurd (omega arith)
slice_get-some (x ∷ xs) zero low = (x, refl)
slice_get-some (x ∷ xs) (suc i) low = slice_get-some xs i (omega arith)

module _ (residents : List Resident) (distinct : IsDistinct nat_eq (places_of residents)) where
  module _ (r : Resident) (there : In r residents) (named : IsDistinct bytes_eq (map name_of (queries_of residents))) where
    -- one resident has the place, and the same one has the name
    pub place-name : (x : Resident) → In x residents → nat_eq x.0 r.0 ≡ is_named r.1.name x.1
    place-name = alike
      where
        by_names : Pairwise (λ (x y : Resident). Differ x.1.name y.1.name) residents
        by_names = distinct-differ bytes_eq bytes_eq-Decides (λ (x : Resident). x.1.name) residents (subst (IsDistinct bytes_eq) (map-map name_of (λ (x : Resident). x.1) residents) named)

        by_places : Pairwise (λ (x y : Resident). Differ x.0 y.0) residents
        by_places = distinct-differ nat_eq Decides-eqb (λ (x : Resident). x.0) residents distinct

        alike : (x : Resident) → In x residents → nat_eq x.0 r.0 ≡ is_named r.1.name x.1
        alike x m =
            by_bool (is_named r.1.name x.1) (nat_eq x.0 r.0 ≡ is_named r.1.name x.1)
            (λ t.
            let name : x.1.name ≡ r.1.name = sym ((bytes_eq-Decides r.1.name x.1.name).0 t) in
            let one : x ≡ r = same-key (λ (y : Resident). y.1.name) residents by_names x r m there name in
            (Decides-eqb x.0 r.0).1 (ap (λ (y : Resident). y.0) one) ∙ sym t)
            (λ f.
            by_bool (nat_eq x.0 r.0) (nat_eq x.0 r.0 ≡ is_named r.1.name x.1)
            (λ t.
            let one : x ≡ r = same-key (λ (y : Resident). y.0) residents by_places x r m there ((Decides-eqb x.0 r.0).0 t) in
            let named_so : is_named r.1.name x.1 ≡ true = (bytes_eq-Decides r.1.name x.1.name).1 (sym (ap (λ (y : Resident). y.1.name) one)) in
            absurd (let never : true ≡ false = sym named_so ∙ f in cc))
            (λ g. g ∙ sym f))

    -- Those that are left are those without the name of the one that goes.
    pub residents_withdrawn : all_but r.0 residents ≡ filter (λ x. not (is_named r.1.name x.1)) residents
    residents_withdrawn = filter-same (λ (x : Resident). not (nat_eq x.0 r.0)) (λ x. not (is_named r.1.name x.1)) residents (λ x m. ap not (place-name x m))

    pub queries_withdrawn : queries_of (all_but r.0 residents) ≡ filter (λ other. not (is_named r.1.name other)) (queries_of residents)
    queries_withdrawn =
        filter-by_map (λ (x : Resident). x.1) (λ x. not (nat_eq x.0 r.0)) (λ other. not (is_named r.1.name other)) residents (λ x m. ap not (place-name x m))

  module _ (flag : PendingQuery → Bool) (nodes : List (ℕ × ℕ × Bool)) (edges : List Edge) (graph : IsGraphOf (λ r. flag r.1) residents nodes edges) where
    abbrev crowd_of : ℕ → List ℕ → ℕ → List (Crowd (List ℕ))
    crowd_of post waiter count = if is_crowd count then (record { waiter = waiter; post = post; providers = count }) ∷ [] else []

    -- The crowded postconditions, by the edges among residents.
    pub crowded_placed : crowded_of (queries_of residents) ≡ crowds_among edges residents
    crowded_placed =
        let pending = queries_of residents in
        let all = enumerate_from 0 pending in
        let of_resident : Resident → List (Crowd (List ℕ)) = λ r. flat_map (crowd_at_place edges r) (enumerate_from 0 r.1.query.posts) in
        flat_map-same (λ p. flat_map (crowd_if pending p) (enumerate_from 0 p.1.query.posts)) (λ p. of_resident (place_at residents p.0, p.1)) all
        (λ p m. flat_map-same (crowd_if pending p) (crowd_at_place edges (place_at residents p.0, p.1)) (enumerate_from 0 p.1.query.posts)
        (λ post k. ap (crowd_of post.0 p.1.name) (sym (graph_providers flag residents distinct nodes edges graph p.0 (enumerated residents p m) post.0))))
        ∙ sym (flat_map-map of_resident (λ (p : Resident). (place_at residents p.0, p.1)) all)
        ∙ ap (flat_map of_resident) (residents_moved residents)

  -- The names of the matched queries, where those are able that are so over the rows of a pool.
  pub matched_placed : (pool : PoolRecord) (nodes : List (ℕ × ℕ × Bool)) (edges : List Edge) → IsGraphOf (able_over pool.tables.rows) residents nodes edges
      → matched_names (record pool { pending = queries_of residents }) ≡ map (λ r. r.1.name) (filter (λ r. is_matched nodes edges r.0) residents)
  matched_placed pool nodes edges graph =
      names_placed residents (is_matched_at (record pool { pending = queries_of residents })) (is_matched nodes edges) (λ i low. graph_matched_at pool residents distinct nodes edges graph i low)
