-- The crowded postconditions, from the runs of the edges.
use Rattle.std.proofs.Common.{◌≡◌, ℕ, ◌+◌, ◌<◌, ◌≤◌, ◌==◌, Bool, true, false, List, [], ◌∷◌, ◌++◌, length, drop, map, refl, sym, ap, subst, ◌∙◌, arith, inl, inr, append_assoc, append-nil, Some, None, if◌then◌else◌}
use Rattle.std.specs.Prelude.{filter}
use Rattle.std.specs.List.{flat_map, enumerate_from, slice_get, prefix_len}
use Rattle.std.proofs.lemmas.Bool.{eq-eqb, ne_eqb, eqb-true}
use Rattle.std.proofs.lemmas.Grind.{flat_map-append}
use Rattle.std.proofs.lemmas.List.Elements.{filter-append}
use Rattle.std.proofs.lemmas.List.Folds.{flat_map-map}
use Rattle.std.proofs.lemmas.List.Sums.{prefix_len-le-length}
use Rattle.std.proofs.lemmas.Option.{slice_get_within}
use Rattle.std.proofs.Math.Seq.{drop-append_seam}
use Rattle.cq_atom.specs.Atom.{AtomRecord}
use Rattle.cq_atom.specs.declared.edge.Edge.{Edge}
use Rattle.cq_match.specs.Graph.{leads_to, provider_count, is_crowd}
use Rattle.cq_board.specs.declared.link.Crowd.{Crowd}
use Rattle.cq_board.specs.Pool.{PendingQuery}
use Rattle.cq_board.specs.Edges.{edges_into, edges_of}
use Rattle.cq_board.specs.Board.{crowd_if, crowded_of, name_at, name_or_none}
use Rattle.cq_board.specs.Steps.Runs.{run_length, crowd_at}
use Rattle.cq_board.proofs.Members.{by_bool, In, In-append, In-flat_map_gives, In-map_gives}
use Rattle.cq_board.proofs.Ends.{In-enumerate_from, In-enumerate, In-edges_into}

-- ---- one list of all postconditions

-- a postcondition with its query, each with its place
abbrev pub Post : Type 0
Post = (ℕ × PendingQuery) × (ℕ × AtomRecord)

abbrev posts_of : ℕ × PendingQuery → List Post
posts_of p = map (λ post. (p, post)) (enumerate_from 0 p.1.query.posts)

abbrev posts_from : ℕ → List PendingQuery → List Post
posts_from n pending = flat_map posts_of (enumerate_from n pending)

flat_map-posts : {Y : Type 0} (g : ℕ × PendingQuery → ℕ × AtomRecord → List Y) (ps : List (ℕ × PendingQuery))
    → flat_map (λ p. flat_map (g p) (enumerate_from 0 p.1.query.posts)) ps ≡ flat_map (λ (q : Post). g q.0 q.1) (flat_map posts_of ps)
flat_map-posts g [] = refl
flat_map-posts g (p ∷ ps) =
    ap (λ ys. ys ++ flat_map (λ w. flat_map (g w) (enumerate_from 0 w.1.query.posts)) ps) (sym (flat_map-map (λ (q : Post). g q.0 q.1) (λ post. (p, post)) (enumerate_from 0 p.1.query.posts)))
    ∙ ap (λ ys. flat_map (λ (q : Post). g q.0 q.1) (posts_of p) ++ ys) (flat_map-posts g ps)
    ∙ sym (flat_map-append (λ (q : Post). g q.0 q.1) (posts_of p) (flat_map posts_of ps))

flat_map-same : {X Y : Type 0} (f g : X → List Y) (xs : List X) → ((x : X) → In x xs → f x ≡ g x) → flat_map f xs ≡ flat_map g xs
flat_map-same f g [] h = refl
flat_map-same f g (x ∷ xs) h = ap (λ ys. ys ++ flat_map f xs) (h x (inl refl)) ∙ ap (λ ys. g x ++ ys) (flat_map-same f g xs (λ y m. h y (inr m)))

-- ---- no postcondition comes twice

abbrev Apart : Post → Post → Type 0
Apart q r = q.0.0 ≡ r.0.0 → q.1.0 ≡ r.1.0 → ⊥

abbrev AllApart : List Post → Type 0
AllApart [] = Unit {0}
AllApart (q ∷ qs) = ((r : Post) → In r qs → Apart q r) × AllApart qs

AllApart-append : (qs rs : List Post) → AllApart qs → AllApart rs → ((q r : Post) → In q qs → In r rs → Apart q r) → AllApart (qs ++ rs)
AllApart-append [] rs a b c = b
AllApart-append (q ∷ qs) rs a b c = (
  λ r m. elim (In-append r qs rs m) [ inl k ↦ a.0 r k | inr k ↦ c q r (inl refl) k ],
  AllApart-append qs rs a.1 b (λ s r m k. c s r (inr m) k),
)

AllApart-within : (p : ℕ × PendingQuery) (n : ℕ) (atoms : List AtomRecord) → AllApart (map (λ post. (p, post)) (enumerate_from n atoms))
AllApart-within p n [] = tt
AllApart-within p n (a ∷ atoms) = (
  λ r m e f. let from = In-map_gives (λ post. (p, post)) (enumerate_from (n + 1) atoms) r m in
      let at = In-enumerate_from (n + 1) atoms from.0 from.1 in
      let same : r.1.0 ≡ from.0.0 = ap (λ q. q.1.0) from.2 in
      let later : from.0.0 ≡ n + 1 + at.0 = at.1 in
      let here : n ≡ r.1.0 = f in
      omega arith,
  AllApart-within p (n + 1) atoms,
)

posts_from-at : (n : ℕ) (pending : List PendingQuery) (q : Post) → In q (posts_from n pending) → (p : ℕ × PendingQuery) × In p (enumerate_from n pending) × (post : ℕ × AtomRecord) × In post (enumerate_from 0 p.1.query.posts) × (q ≡ (p, post))
posts_from-at n pending q h =
    let by_query = In-flat_map_gives posts_of (enumerate_from n pending) q h in
    let by_post = In-map_gives (λ post. (by_query.0, post)) (enumerate_from 0 by_query.0.1.query.posts) q by_query.2 in
    (by_query.0, by_query.1, by_post.0, by_post.1, by_post.2)

AllApart-posts : (n : ℕ) (pending : List PendingQuery) → AllApart (posts_from n pending)
AllApart-posts n [] = tt
AllApart-posts n (query ∷ pending) =
    AllApart-append (posts_of (n, query)) (posts_from (n + 1) pending) (AllApart-within (n, query) 0 query.query.posts) (AllApart-posts (n + 1) pending)
    (λ q r m k e f.
    let here = In-map_gives (λ post. ((n, query), post)) (enumerate_from 0 query.query.posts) q m in
    let there = posts_from-at (n + 1) pending r k in
    let at = In-enumerate_from (n + 1) pending there.0 there.1 in
    let first : q.0.0 ≡ n = ap (λ x. x.0.0) here.2 in
    let second : r.0.0 ≡ there.0.0 = ap (λ x. x.0.0) there.4 in
    let later : there.0.0 ≡ n + 1 + at.0 = at.1 in
    let same : q.0.0 ≡ r.0.0 = e in
    omega arith)

-- ---- runs

passes_all : {X : Type 0} (p : X → Bool) (xs ys : List X) → ((x : X) → In x xs → p x ≡ true) → ((y : X) → In y ys → p y ≡ false) → prefix_len p (xs ++ ys) ≡ length xs
passes_all p [] [] t f = refl
passes_all p [] (y ∷ ys) t f = rw (f y (inl refl)) refl
passes_all p (x ∷ xs) ys t f = let more : prefix_len p (xs ++ ys) ≡ length xs = passes_all p xs ys (λ z m. t z (inr m)) f in rw (t x (inl refl)) (omega arith)

filter_all : {X : Type 0} (p : X → Bool) (xs : List X) → ((x : X) → In x xs → p x ≡ true) → filter p xs ≡ xs
filter_all p [] h = refl
filter_all p (x ∷ xs) h = rw (h x (inl refl)) (ap (λ ys. x ∷ ys) (filter_all p xs (λ y m. h y (inr m))))

filter_none : {X : Type 0} (p : X → Bool) (xs : List X) → ((x : X) → In x xs → p x ≡ false) → filter p xs ≡ []
filter_none p [] h = refl
filter_none p (x ∷ xs) h = rw (h x (inl refl)) (filter_none p xs (λ y m. h y (inr m)))

by_list : {X : Type 0} (xs : List X) (P : Type 0) → (xs ≡ [] → P) → ((y : X) (ys : List X) → xs ≡ y ∷ ys → P) → P
by_list [] P f g = f refl
by_list (x ∷ xs) P f g = g x xs refl

pub first_is : {X : Type 0} (xs : List X) (x : X) → slice_get xs 0 ≡ Some x → xs ≡ x ∷ drop 1 xs
first_is [] x e = cc
first_is (y ∷ xs) x e = let same : y ≡ x = cc in ap (λ z. z ∷ xs) same

pub none_is : {X : Type 0} (xs : List X) → slice_get xs 0 ≡ None → xs ≡ []
none_is [] e = refl
none_is (y ∷ xs) e = cc

leads_to_itself : (e : Edge) (waiter post : ℕ) → e.waiter ≡ waiter → e.post ≡ post → leads_to waiter post e ≡ true
leads_to_itself e waiter post w p = rw (eq-eqb e.waiter waiter w, eq-eqb e.post post p) refl

leads_elsewhere : (e : Edge) (waiter post : ℕ) → (e.waiter ≡ waiter → e.post ≡ post → ⊥) → leads_to waiter post e ≡ false
leads_elsewhere e waiter post apart =
    by_bool (e.waiter == waiter) (leads_to waiter post e ≡ false)
    (λ k. rw k (ne_eqb e.post post (apart (eqb-true e.waiter waiter k))))
    (λ k. rw k refl)

-- a run is not longer than the list that it begins
pub run_length-le : (first : Edge) (edges : List Edge) → run_length first edges ≤ length edges
run_length-le first edges = prefix_len-le-length (leads_to first.waiter first.post) edges

-- a run has its first edge
pub run_length-some : (first : Edge) (edges more : List Edge) → edges ≡ first ∷ more → 0 < run_length first edges
run_length-some first edges more e =
    let is : run_length first edges ≡ 1 + run_length first more = ap (run_length first) e ∙ rw (leads_to_itself first first.waiter first.post refl refl) refl in
    omega arith

module _ (pending : List PendingQuery) where
  abbrev into : Post → List Edge
  into q = edges_into pending q.0.0 q.1

  abbrev crowd_of : Post → ℕ → List (Crowd (List ℕ))
  crowd_of q count = if is_crowd count then (record { waiter = q.0.1.name; post = q.1.0; providers = count }) ∷ [] else []

  -- the postcondition, where its edges are a crowd
  abbrev crowd : Post → List (Crowd (List ℕ))
  crowd q = crowd_of q (length (into q))

  -- the postcondition is one of the pending queries'
  abbrev Stands : Post → Type 0
  Stands q = (slice_get pending q.0.0 ≡ Some q.0.1) × (slice_get q.0.1.query.posts q.1.0 ≡ Some q.1.1)

  stands : (q : Post) → In q (posts_from 0 pending) → Stands q
  stands q h =
      let found = posts_from-at 0 pending q h in
      subst Stands (sym found.4) (In-enumerate pending found.0 found.1, In-enumerate found.0.1.query.posts found.2 found.3)

  edges_of-posts : edges_of pending ≡ flat_map into (posts_from 0 pending)
  edges_of-posts = flat_map-posts (λ p post. edges_into pending p.0 post) (enumerate_from 0 pending)

  -- the edges to a postcondition lead to it, and those to others do not
  leads_here : (q : Post) (e : Edge) → In e (into q) → leads_to q.0.0 q.1.0 e ≡ true
  leads_here q e m = let leads = In-edges_into pending q.0.0 q.1 e m in leads_to_itself e q.0.0 q.1.0 leads.0 leads.1

  leads_there : (q r : Post) → Apart q r → (e : Edge) → In e (into r) → leads_to q.0.0 q.1.0 e ≡ false
  leads_there q r apart e m =
      let leads = In-edges_into pending r.0.0 r.1 e m in
      leads_elsewhere e q.0.0 q.1.0 (λ w p. apart (sym w ∙ leads.0) (sym p ∙ leads.1))

  leads_behind : (q : Post) (posts : List Post) → ((r : Post) → In r posts → Apart q r) → (e : Edge) → In e (flat_map into posts) → leads_to q.0.0 q.1.0 e ≡ false
  leads_behind q posts apart e m = let from = In-flat_map_gives into posts e m in leads_there q from.0 (apart from.0 from.1) e from.2

  run_of-post : (q : Post) (posts : List Post) → ((r : Post) → In r posts → Apart q r) → prefix_len (leads_to q.0.0 q.1.0) (into q ++ flat_map into posts) ≡ length (into q)
  run_of-post q posts apart = passes_all (leads_to q.0.0 q.1.0) (into q) (flat_map into posts) (leads_here q) (leads_behind q posts apart)

  edges_to-post : (posts : List Post) → AllApart posts → (q : Post) → In q posts → filter (leads_to q.0.0 q.1.0) (flat_map into posts) ≡ into q
  edges_to-post [] apart q m = absurd m
  edges_to-post (r ∷ posts) apart q (inl e) =
      subst (λ (z : Post). filter (leads_to z.0.0 z.1.0) (into r ++ flat_map into posts) ≡ into z) (sym e)
      (filter-append (leads_to r.0.0 r.1.0) (into r) (flat_map into posts)
      ∙ ap (λ es. filter (leads_to r.0.0 r.1.0) (into r) ++ es) (filter_none (leads_to r.0.0 r.1.0) (flat_map into posts) (leads_behind r posts apart.0))
      ∙ append-nil (filter (leads_to r.0.0 r.1.0) (into r))
      ∙ filter_all (leads_to r.0.0 r.1.0) (into r) (leads_here r))
  edges_to-post (r ∷ posts) apart q (inr m) =
      filter-append (leads_to q.0.0 q.1.0) (into r) (flat_map into posts)
      ∙ ap (λ es. es ++ filter (leads_to q.0.0 q.1.0) (flat_map into posts)) (filter_none (leads_to q.0.0 q.1.0) (into r) (leads_there q r (λ w p. apart.0 q m (sym w) (sym p))))
      ∙ edges_to-post posts apart.1 q m

  crowd_if-crowd : (q : Post) → In q (posts_from 0 pending) → crowd_if pending q.0 q.1 ≡ crowd q
  crowd_if-crowd q m =
      let found : provider_count q.0.0 q.1.0 (edges_of pending) ≡ length (into q) =
      ap (λ es. length (filter (leads_to q.0.0 q.1.0) es)) edges_of-posts ∙ ap length (edges_to-post (posts_from 0 pending) (AllApart-posts 0 pending) q m) in
      ap (crowd_of q) found

  crowded_of-posts : crowded_of pending ≡ flat_map crowd (posts_from 0 pending)
  crowded_of-posts =
      flat_map-posts (crowd_if pending) (enumerate_from 0 pending)
      ∙ flat_map-same (λ (q : Post). crowd_if pending q.0 q.1) crowd (posts_from 0 pending) crowd_if-crowd

  -- what was found, and what the edges that are left will give, are all crowded postconditions
  pub record IsCounting (rest : List Edge) (found : List (Crowd (List ℕ))) : Type 0 where
    pub posts : List Post
    pub standing : (q : Post) → In q posts → Stands q
    pub apart : AllApart posts
    pub left : rest ≡ flat_map into posts
    pub all : found ++ flat_map crowd posts ≡ crowded_of pending

  pub counting-starts : (rest : List Edge) → rest ≡ edges_of pending → IsCounting rest []
  counting-starts rest e = record {
    posts = posts_from 0 pending;
    standing = stands;
    apart = AllApart-posts 0 pending;
    left = e ∙ edges_of-posts;
    all = sym crowded_of-posts;
  }

  crowds_none : (posts : List Post) → flat_map into posts ≡ [] → flat_map crowd posts ≡ []
  crowds_none [] e = refl
  crowds_none (q ∷ posts) e =
      by_list (into q) (crowd q ++ flat_map crowd posts ≡ [])
      (λ n. let none : crowd q ≡ [] = ap (λ es. crowd_of q (length es)) n in
      let more : flat_map into posts ≡ [] = ap (λ es. es ++ flat_map into posts) (sym n) ∙ e in
      ap (λ cs. cs ++ flat_map crowd posts) none ∙ crowds_none posts more)
      (λ y ys n. let no : y ∷ (ys ++ flat_map into posts) ≡ [] = ap (λ es. es ++ flat_map into posts) (sym n) ∙ e in cc)

  pub counting-ends : (rest : List Edge) (found : List (Crowd (List ℕ))) → rest ≡ [] → IsCounting rest found → found ≡ crowded_of pending
  counting-ends rest found e k = sym (append-nil found) ∙ ap (λ ys. found ++ ys) (sym (crowds_none k.posts (sym k.left ∙ e))) ∙ k.all

  -- the first of the edges that are left leads to a pending query
  pub counting-waiter : (rest : List Edge) (found : List (Crowd (List ℕ))) (first : Edge) (more : List Edge) → rest ≡ first ∷ more → IsCounting rest found → first.waiter < length pending
  counting-waiter rest found first more e k =
      let here : In first (flat_map into k.posts) = subst (In first) k.left (subst (In first) (sym e) (inl refl)) in
      let from = In-flat_map_gives into k.posts first here in
      let leads = In-edges_into pending from.0.0.0 from.0.1 first from.2 in
      subst (λ (n : ℕ). n < length pending) (sym leads.0) (slice_get_within pending from.0.0.0 from.0.0.1 (k.standing from.0 from.1).0)

  crowd_at-post : (q : Post) (first : Edge) (count : ℕ) → Stands q → first.waiter ≡ q.0.0 → first.post ≡ q.1.0 → count ≡ length (into q) → crowd_at pending first count ≡ crowd q
  crowd_at-post q first count stand w p c =
      let named : name_or_none (name_at pending first.waiter) ≡ q.0.1.name = rw (w, stand.0) refl in
      rw (named, p, c) refl

  -- one run of edges is one postcondition
  counting-step : (posts : List Post) (rest : List Edge) (found : List (Crowd (List ℕ))) (first : Edge) (more : List Edge) → rest ≡ first ∷ more
      → ((q : Post) → In q posts → Stands q) → AllApart posts → rest ≡ flat_map into posts → found ++ flat_map crowd posts ≡ crowded_of pending
      → IsCounting (drop (run_length first rest) rest) (found ++ crowd_at pending first (run_length first rest))
  counting-step [] rest found first more e standing apart left all = cc
  counting-step (q ∷ posts) rest found first more e standing apart left all =
      by_list (into q) (IsCounting (drop (run_length first rest) rest) (found ++ crowd_at pending first (run_length first rest)))
      (λ n. counting-step posts rest found first more e (λ r m. standing r (inr m)) apart.1 (left ∙ ap (λ es. es ++ flat_map into posts) n)
      (ap (λ cs. found ++ (cs ++ flat_map crowd posts)) (sym (ap (λ es. crowd_of q (length es)) n)) ∙ all))
      (λ y ys n.
      let both : first ∷ more ≡ y ∷ (ys ++ flat_map into posts) = sym e ∙ left ∙ ap (λ es. es ++ flat_map into posts) n in
      let same : first ≡ y = cc in
      let here : In first (into q) = subst (In first) (sym n) (inl same) in
      let leads = In-edges_into pending q.0.0 q.1 first here in
      let runs : run_length first rest ≡ length (into q) = rw (leads.0, leads.1, left) (run_of-post q posts apart.0) in
      record {
        posts = posts;
        standing = λ r m. standing r (inr m);
        apart = apart.1;
        left = rw (runs, left) (drop-append_seam (into q) (flat_map into posts));
        all = rw (crowd_at-post q first (run_length first rest) (standing q (inl refl)) leads.0 leads.1 runs) (append_assoc found (crowd q) (flat_map crowd posts) ∙ all);
      })

  pub counting-continues : (rest : List Edge) (found : List (Crowd (List ℕ))) (first : Edge) (more : List Edge) → rest ≡ first ∷ more → IsCounting rest found
      → IsCounting (drop (run_length first rest) rest) (found ++ crowd_at pending first (run_length first rest))
  counting-continues rest found first more e k = counting-step k.posts rest found first more e k.standing k.apart k.left k.all
