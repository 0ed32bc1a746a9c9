-- How the part of a falling list on which a node rests is found backwards, by places: the places themselves, one step, the start and the end.
use Rattle.std.proofs.Common.{◌≡◌, ℕ, zero, suc, ◌+◌, ◌<◌, ◌≤◌, ◌⊎◌, inl, inr, Bool, true, false, ◌&&◌, ◌||◌, eqb, List, [], ◌∷◌, ◌++◌, length, get_or, take, drop, filter, nat_eq, refl, sym, ap, ◌∙◌, subst, arith, eq-eqb, reverse, Some, None}
use Rattle.std.specs.Prelude.{Option}
use Rattle.std.specs.List.{All, Contains, IsDistinct, list_any}
use Rattle.std.specs.BTreeSet.{BTreeSet, contains}
use Rattle.std.specs.BTreeMap.Range.{IsLtBy}
use Rattle.std.specs.Map.{update}
use Rattle.std.specs.Option.{unwrap_or}
use Rattle.std.specs.Ordering.{nat_cmp, is_lt}
use Rattle.std.proofs.Math.Dec.{ltb}
use Rattle.std.proofs.lemmas.Bool.{eqb-true, ltb-true, ltb-false, ne_eqb}
use Rattle.std.proofs.lemmas.Cmp.{nat_cmp_total}
use Rattle.std.proofs.lemmas.List.{get_or-map, length-map, take-append-drop, take_all, drop_all, reverse-append}
use Rattle.std.proofs.lemmas.List.Elements.{All-nil, All-cons, All-contains}
use Rattle.std.proofs.lemmas.Map.{update_same, update_other}
use Rattle.std.proofs.lemmas.Map.Keys.{apart_from_distinct}
use Rattle.std.proofs.lemmas.Map.Lookups.{exact_unsigned}
use Rattle.std.proofs.lemmas.Map.Views.{btree_set_contains_iff}
use Rattle.std.proofs.lemmas.Option.{same_Some}
use Rattle.cq_atom.specs.declared.edge.Edge.{Edge}
use Rattle.cq_match.specs.declared.falls.Fall.{Fall}
use Rattle.cq_match.specs.declared.falls.Reason.{Reason}
use Rattle.cq_match.specs.declared.falls.Reason.TheVariants.{NotAble, Unmet}
use Rattle.cq_match.specs.Graph.{leads_to, edges_to}
use Rattle.cq_match.specs.Falling.{fallen, IsFalling}
use Rattle.cq_match.specs.Resting.{RestsOn, Itself, ByProvider}
use Rattle.cq_match.specs.Steps.Resting.{no_fall, node_at, ArePlaces, is_sender_at, feeds_from, Picks, FallsOnce, IsRested, Walking}
use Rattle.cq_match.proofs.Tests.{by_bool, both, and_left, and_right}
use Rattle.cq_match.proofs.Rested.{In, in-left, in-right, in-append, in-filter, from-filter, contained, placed, in-fallen, one-fall, fed-before, closed, pick-nil, rests-next, rests-absent}

-- ---- falls by their places

drop-at : (falls : List Fall) (k : ℕ) → k < length falls → drop k falls ≡ get_or falls k no_fall ∷ drop (suc k) falls
drop-at [] k low = absurd (let none : k < 0 = low in omega arith)
drop-at (f ∷ falls) zero low = refl
drop-at (f ∷ falls) (suc k) low = drop-at falls k (let l : suc k < suc (length falls) = low in omega arith)

-- what stands in a front has a place there
in-front : (falls : List Fall) (p n : ℕ) → In n (fallen (take p falls)) → (k : ℕ) × (k < p) × (k < length falls) × (node_at falls k ≡ n)
in-front falls zero n h = absurd h
in-front [] (suc p) n h = absurd h
in-front (f ∷ falls) (suc p) n (inl e) = (0, omega arith, omega arith, sym e)
in-front (f ∷ falls) (suc p) n (inr h) =
    let more = in-front falls p n h in
    let low : more.0 < p = more.1 in
    let within : more.0 < length falls = more.2 in
    (suc more.0, omega (arith, low), omega (arith, within), more.3)

front-in : (falls : List Fall) (p k : ℕ) → k < p → k < length falls → In (node_at falls k) (fallen (take p falls))
front-in [] p k under low = absurd (let none : k < 0 = low in omega arith)
front-in (f ∷ falls) zero k under low = absurd (let none : k < 0 = under in omega arith)
front-in (f ∷ falls) (suc p) zero under low = inl refl
front-in (f ∷ falls) (suc p) (suc k) under low = inr (front-in falls p k (let l : suc k < suc p = under in omega arith) (let l : suc k < suc (length falls) = low in omega arith))

at-place : (falls : List Fall) (n : ℕ) → In n (fallen falls) → (k : ℕ) × (k < length falls) × (node_at falls k ≡ n)
at-place falls n h =
    let found = in-front falls (length falls) n (subst (λ (fs : List Fall). In n (fallen fs)) (sym (take_all (length falls) falls (omega arith))) h) in
    (found.0, found.2, found.3)

module _ (falls : List Fall) (once : IsDistinct nat_eq (fallen falls)) where
  node-read : (i : ℕ) → i < length falls → get_or (fallen falls) i 0 ≡ node_at falls i
  node-read i low = get_or-map (λ (f : Fall). f.node) falls i no_fall 0 low

  never-again : (i j : ℕ) → i < j → j < length falls → node_at falls i ≡ node_at falls j → ⊥
  never-again i j less low same =
      let among : j < length (fallen falls) = let m = length-map falls (λ (f : Fall). f.node) in omega (arith, low, m) in
      let before : i < length falls = omega (arith, less, low) in
      let apart = apart_from_distinct nat_eq (fallen falls) i j 0 once less among in
      let equal : nat_eq (get_or (fallen falls) i 0) (get_or (fallen falls) j 0) ≡ true = eq-eqb (get_or (fallen falls) i 0) (get_or (fallen falls) j 0) (node-read i before ∙ same ∙ sym (node-read j low)) in
      let never : false ≡ true = sym apart ∙ equal in cc

  -- one place more is noted
  pub placed-more : (p : ℕ) → p < length falls → (old new : ℕ → Option ℕ) → ((n : ℕ) → new n ≡ update nat_eq old (node_at falls p) (Some p) n) → ArePlaces falls p old → ArePlaces falls (p + 1) new
  placed-more p low old new is so_far =
      record {
        each = (λ k under.
            by_bool (ltb k p) (new (node_at falls k) ≡ Some k)
            (λ t.
            let apart : eqb (node_at falls p) (node_at falls k) ≡ false = ne_eqb (node_at falls p) (node_at falls k) (λ e. never-again k p (ltb-true k p t) low (sym e)) in
            is (node_at falls k) ∙ update_other nat_eq old (node_at falls p) (Some p) (node_at falls k) apart ∙ so_far.each k (ltb-true k p t))
            (λ f.
            let over : p ≤ k = ltb-false k p f in
            let same : p ≡ k = omega (arith, over, under) in
            subst (λ (i : ℕ). new (node_at falls i) ≡ Some i) same (is (node_at falls p) ∙ update_same nat_eq old (node_at falls p) (Some p) (node_at falls p) (eq-eqb (node_at falls p) (node_at falls p) refl))));
        only = (λ n k here.
            by_bool (eqb (node_at falls p) n) ((k < p + 1) × (node_at falls k ≡ n))
            (λ t.
            let same : p ≡ k = same_Some p k (sym (update_same nat_eq old (node_at falls p) (Some p) n t) ∙ sym (is n) ∙ here) in
            (omega (arith, same), sym (ap (node_at falls) same) ∙ eqb-true (node_at falls p) n t))
            (λ f.
            let before = so_far.only n k (sym (update_other nat_eq old (node_at falls p) (Some p) n f) ∙ sym (is n) ∙ here) in
            let low : k < p = before.0 in
            (omega (arith, low), before.1)));
      }

-- what is picked from a place on is picked from a lower one on, where the falls between do not have the property
picks-past : (P : Fall → Type 0) (falls part : List Fall) (a b : ℕ) → a ≤ b → b ≤ length falls → ((i : ℕ) → a ≤ i → i < b → P (get_or falls i no_fall) → ⊥) → Picks P (drop b falls) part → Picks P (drop a falls) part
picks-past P falls part zero zero low inside none h = h
picks-past P [] part zero (suc b) low inside none h = absurd (let never : suc b ≤ 0 = inside in omega arith)
picks-past P (f ∷ falls) part zero (suc b) low inside none h =
    inl (
      none 0 (omega arith) (omega arith),
      picks-past P falls part zero b (omega arith) (let l : suc b ≤ suc (length falls) = inside in omega arith) (λ i over under. none (suc i) (omega arith) (omega (arith, under))) h,
    )
picks-past P falls part (suc a) zero low inside none h = absurd (let never : suc a ≤ 0 = low in omega arith)
picks-past P [] part (suc a) (suc b) low inside none h = absurd (let never : suc b ≤ 0 = inside in omega arith)
picks-past P (f ∷ falls) part (suc a) (suc b) low inside none h =
    picks-past P falls part a b (let l : suc a ≤ suc b = low in omega arith) (let l : suc b ≤ suc (length falls) = inside in omega arith) (λ i over under. none (suc i) (omega (arith, over)) (omega (arith, under))) h

-- ---- who sends an edge to a postcondition

module _ (sends : Edge → Bool) where
  any-gives : (es : List Edge) → list_any sends es ≡ true → (e : Edge) × In e es × (sends e ≡ true)
  any-gives [] t = absurd (let never : false ≡ true = t in cc)
  any-gives (e ∷ es) t =
      by_bool (sends e) ((x : Edge) × In x (e ∷ es) × (sends x ≡ true))
      (λ y. (e, inl refl, y))
      (λ n. let more = any-gives es (rw n at t) in (more.0, inr more.1, more.2))

  any-has : (es : List Edge) (e : Edge) → In e es → sends e ≡ true → list_any sends es ≡ true
  any-has [] e h t = absurd h
  any-has (x ∷ es) e (inl is) t = rw (ap sends (sym is) ∙ t) refl
  any-has (x ∷ es) e (inr h) t = by_bool (sends x) (list_any sends (x ∷ es) ≡ true) (λ y. rw y refl) (λ n. rw n (any-has es e h t))

module _ (places : ℕ → Option ℕ) (waiter post : ℕ) (edges : List Edge) where
  abbrev place : Edge → ℕ
  place e = unwrap_or (places e.provider) 0

  abbrev sends : ℕ → Edge → Bool
  sends w e = eqb e.post post && eqb (place e) w

  abbrev here : List Edge
  here = filter (λ e. eqb e.waiter waiter) edges

  sender-is : (w : ℕ) → is_sender_at places post here w ≡ true → (e : Edge) × In e (edges_to waiter post edges) × (place e ≡ w)
  sender-is w t =
      let found = any-gives (sends w) here t in
      let e = found.0 in
      let from = from-filter (λ x. eqb x.waiter waiter) edges e found.1 in
      let leads : leads_to waiter post e ≡ true = both (eqb e.waiter waiter) (eqb e.post post) from.1 (and_left (eqb e.post post) (eqb (place e) w) found.2) in
      (e, in-filter (leads_to waiter post) edges e from.0 leads, eqb-true (place e) w (and_right (eqb e.post post) (eqb (place e) w) found.2))

  is-sender : (e : Edge) → In e (edges_to waiter post edges) → is_sender_at places post here (place e) ≡ true
  is-sender e m =
      let from = from-filter (leads_to waiter post) edges e m in
      let among = in-filter (λ x. eqb x.waiter waiter) edges e from.0 (and_left (eqb e.waiter waiter) (eqb e.post post) from.1) in
      any-has (sends (place e)) here e among (both (eqb e.post post) (eqb (place e) (place e)) (and_right (eqb e.waiter waiter) (eqb e.post post) from.1) (eq-eqb (place e) (place e) refl))

-- ---- one step

module _ (edges : List Edge) (falls : List Fall) (good : FallsOnce edges falls) where
  -- what a node rests on falls no later
  rests-at : (i n : ℕ) → i < length falls → RestsOn edges falls (node_at falls i) n → (k : ℕ) × (k < suc i) × (k < length falls) × (node_at falls k ≡ n)
  rests-at i n low rests =
      in-front falls (suc i) n (closed edges falls good (take (suc i) falls) (drop (suc i) falls) (sym (take-append-drop (suc i) falls)) (node_at falls i) n rests (front-in falls (suc i) i (omega arith) low))

  never-later : (i j : ℕ) → i < j → j < length falls → RestsOn edges falls (node_at falls i) (node_at falls j) → ⊥
  never-later i j less low rests =
      let found = rests-at i (node_at falls j) (omega (arith, less, low)) rests in
      let before : found.0 < suc i = found.1 in
      never-again falls good.once found.0 j (omega (arith, before, less)) low found.3

  -- the node rests on no fall that lies above all wanted places and below those that are reported
  passed : (node left : ℕ) (wanted : List ℕ) (i : ℕ) → i < left → left ≤ length falls → ((w : ℕ) → In w wanted → w < i)
      → ((n : ℕ) → RestsOn edges falls node n → ((k : ℕ) × (left ≤ k) × (k < length falls) × (node_at falls k ≡ n)) ⊎ ((w : ℕ) × Contains wanted w × RestsOn edges falls (node_at falls w) n)) → RestsOn edges falls node (node_at falls i) → ⊥
  passed node left wanted i under inside above reached rests =
      elim (reached (node_at falls i) rests) [
        | inl told ↦
            let over : left ≤ told.0 = told.1 in
            never-again falls good.once i told.0 (omega (arith, under, over)) told.2 (sym told.3)
        | inr some ↦ never-later some.0 i (above some.0 (placed some.0 wanted some.1)) (omega (arith, under, inside)) some.2
      ]

  module _ (places : ℕ → Option ℕ) (table : ArePlaces falls (length falls) places) (p : ℕ) (low : p < length falls) where
    abbrev fall : Fall
    fall = get_or falls p no_fall

    abbrev into : List Edge
    into = filter (λ e. eqb e.waiter fall.node) edges

    cut : falls ≡ take p falls ++ fall ∷ drop (suc p) falls
    cut = sym (take-append-drop p falls) ∙ ap (λ (fs : List Fall). take p falls ++ fs) (drop-at falls p low)

    listed : (post : ℕ) → fall.reason ≡ Unmet post → In (record { node = fall.node; reason = Unmet post }) falls
    listed post is =
        let with_reason : Reason → Fall = λ r. record { node = fall.node; reason = r } in
        subst (λ (r : Reason). In (with_reason r) falls) is (subst (λ (fs : List Fall). In fall fs) (sym cut) (in-right fall (take p falls) (fall ∷ drop (suc p) falls) (inl refl)))

    -- what feeds the reason falls before, and the table has its place
    fed-below : (post : ℕ) → fall.reason ≡ Unmet post → (e : Edge) → In e (edges_to fall.node post edges) → (k : ℕ) × (k < p) × (unwrap_or (places e.provider) 0 ≡ k) × (node_at falls k ≡ e.provider)
    fed-below post is e m =
        let front = fed-before good.nodes edges [] (take p falls) fall (drop (suc p) falls) (subst (λ (fs : List Fall). IsFalling good.nodes edges fs) cut good.falling) post is e m in
        let k = in-front falls p e.provider front in
        (k.0, k.1, ap (λ (at : Option ℕ). unwrap_or at 0) (subst (λ (n : ℕ). places n ≡ Some k.0) k.3 (table.each k.0 k.2)), k.3)

    fed-to : (w : ℕ) → feeds_from places into fall.reason w ≡ true → (w < p) × ((node : ℕ) → RestsOn edges falls node fall.node → RestsOn edges falls node (node_at falls w))
    fed-to w h = by_reason fall.reason refl h
      where
        by_reason : (r : Reason) → fall.reason ≡ r → feeds_from places into r w ≡ true → (w < p) × ((node : ℕ) → RestsOn edges falls node fall.node → RestsOn edges falls node (node_at falls w))
        by_reason NotAble is t = absurd (let never : false ≡ true = t in cc)
        by_reason (Unmet post) is t =
            let found = sender-is places fall.node post edges w t in
            let k = fed-below post is found.0 found.1 in
            let same : k.0 ≡ w = sym k.2 ∙ found.2 in
            let node_is : found.0.provider ≡ node_at falls w = sym k.3 ∙ ap (node_at falls) same in (
              subst (λ (i : ℕ). i < p) same k.1,
              λ node rests. subst (λ (n : ℕ). RestsOn edges falls node n) node_is (rests-next edges falls node fall.node post found.0 rests (listed post is) found.1),
            )

    -- what the fall's node rests on is itself, or what a node at one of the places that feed its reason rests on
    through : (w n : ℕ) → RestsOn edges falls w n → w ≡ fall.node → (n ≡ fall.node) ⊎ ((k : ℕ) × (feeds_from places into fall.reason k ≡ true) × RestsOn edges falls (node_at falls k) n)
    through _ _ (Itself w) e = inl e
    through _ _ (ByProvider w post m edge has leads rest) e =
        let reason : Fall = record { node = w; reason = Unmet post } in
        let inside : In fall falls = subst (λ (fs : List Fall). In fall fs) (sym cut) (in-right fall (take p falls) (fall ∷ drop (suc p) falls) (inl refl)) in
        let same : reason ≡ fall = one-fall falls good.once reason fall (placed reason falls has) inside e in
        let is : fall.reason ≡ Unmet post = ap (λ (f : Fall). f.reason) (sym same) in
        let sent : In edge (edges_to fall.node post edges) = subst (λ (k : ℕ). In edge (edges_to k post edges)) e (placed edge (edges_to w post edges) leads) in
        let k = fed-below post is edge sent in
        let feeds : feeds_from places into fall.reason k.0 ≡ true = ap (λ (r : Reason). feeds_from places into r k.0) is ∙ subst (λ (i : ℕ). is_sender_at places post into i ≡ true) k.2 (is-sender places fall.node post edges edge sent) in
        inr (k.0, feeds, subst (λ (n : ℕ). RestsOn edges falls n m) (sym k.3) rest)

    -- the greatest of the wanted places is p; the others stay, and those that feed its reason come
    module _ (wanted wanted' rest : List ℕ) (split : wanted ≡ rest ++ p ∷ []) (below : All (λ w. w < p) rest)
        (came : (w : ℕ) → In w wanted' → In w rest ⊎ (feeds_from places into fall.reason w ≡ true))
        (comes : (w : ℕ) → In w rest ⊎ (feeds_from places into fall.reason w ≡ true) → In w wanted') where
      low-rest : (w : ℕ) → In w rest → w < p
      low-rest w m = All-contains (λ v. v < p) rest w below (contained w rest m)

      from-split : (w : ℕ) → In w wanted → In w rest ⊎ (w ≡ p)
      from-split w m = elim (in-append w rest (p ∷ []) (subst (λ (ws : List ℕ). In w ws) split m)) [ inl r ↦ inl r | inr n ↦ elim n [ inl e ↦ inr e | inr never ↦ absurd never ] ]

      pub still-below : All (λ w. w < p) wanted'
      still-below =
          all-in wanted' (λ w m. elim (came w m) [ inl r ↦ low-rest w r | inr t ↦ (fed-to w t).0 ])
        where
          all-in : (ws : List ℕ) → ((w : ℕ) → In w ws → w < p) → All (λ w. w < p) ws
          all-in [] h = All-nil (λ w. w < p)
          all-in (w ∷ ws) h = All-cons (λ w. w < p) w ws (h w (inl refl)) (all-in ws (λ v m. h v (inr m)))

      pub stepped : (node left : ℕ) (part part' : List Fall) → p < left → left ≤ length falls → part' ≡ part ++ fall ∷ [] → Walking edges falls node left wanted (reverse part) → Walking edges falls node p wanted' (reverse part')
      stepped node left part part' under inside more w =
          let turned : reverse part' ≡ fall ∷ reverse part = ap reverse more ∙ reverse-append part (fall ∷ []) in
          let itself : RestsOn edges falls node fall.node = w.due p (contained p wanted (subst (λ (ws : List ℕ). In p ws) (sym split) (in-right p rest (p ∷ []) (inl refl)))) in
          let later : Picks (IsRested edges falls node) (drop (suc p) falls) (reverse part) =
          picks-past (IsRested edges falls node) falls (reverse part) (suc p) left (omega (arith, under)) inside (λ i over less.
          passed node left wanted i less inside (λ v m.
          let above : p < i = omega (arith, over) in
          elim (from-split v m) [ inl r ↦ (let l : v < p = low-rest v r in omega (arith, l, above)) | inr e ↦ subst (λ (k : ℕ). k < i) (sym e) above ]) w.reached) w.found in
          record {
            found = subst (λ (fs : List Fall). Picks (IsRested edges falls node) (drop p falls) fs) (sym turned)
                (subst (λ (fs : List Fall). Picks (IsRested edges falls node) fs (fall ∷ reverse part)) (sym (drop-at falls p low)) (inr (itself, reverse part, refl, later)));
            due = (λ v m.
                elim (came v (placed v wanted' m)) [
                  | inl r ↦ w.due v (contained v wanted (subst (λ (ws : List ℕ). In v ws) (sym split) (in-left v rest (p ∷ []) r)))
                  | inr t ↦ (fed-to v t).1 node itself
                ]);
            reached = (λ n rests.
                elim (w.reached n rests) [
                  | inl told ↦ inl (told.0, (let over : left ≤ told.0 = told.1 in omega (arith, under, over)), told.2, told.3)
                  | inr some ↦
                      elim (from-split some.0 (placed some.0 wanted some.1)) [
                        | inl r ↦ inr (some.0, contained some.0 wanted' (comes some.0 (inl r)), some.2)
                        | inr e ↦
                            elim (through (node_at falls some.0) n some.2 (ap (node_at falls) e)) [
                              | inl same ↦ inl (p, omega arith, low, sym same)
                              | inr fed ↦ inr (fed.0, contained fed.0 wanted' (comes fed.0 (inr fed.1)), fed.2)
                            ]
                      ]
                ]);
          }

  -- no place is wanted
  pub walked-out : (node left : ℕ) (wanted : List ℕ) (part : List Fall) → wanted ≡ [] → left ≤ length falls → Walking edges falls node left wanted part → Picks (IsRested edges falls node) falls part
  walked-out node left wanted part over inside w =
      picks-past (IsRested edges falls node) falls part 0 left (omega arith) inside
      (λ i from under. passed node left wanted i under inside (λ v m. absurd (subst (λ (ws : List ℕ). In v ws) over m)) w.reached) w.found

  -- where the walk begins
  pub walk-starts : (place : ℕ) (wanted : List ℕ) → place < length falls → wanted ≡ place ∷ [] → Walking edges falls (node_at falls place) (place + 1) wanted []
  walk-starts place wanted low is =
      let all : Picks (IsRested edges falls (node_at falls place)) (drop (length falls) falls) [] = subst (λ (fs : List Fall). Picks (IsRested edges falls (node_at falls place)) fs []) (sym (drop_all (length falls) falls (omega arith))) tt in
      record {
        found = picks-past (IsRested edges falls (node_at falls place)) falls [] (place + 1) (length falls) (omega (arith, low)) (omega arith) (λ i over under. never-later place i (omega (arith, over)) under) all;
        due = (λ w m.
            elim (subst (λ (ws : List ℕ). In w ws) is (placed w wanted m)) [
              | inl e ↦ subst (λ (v : ℕ). RestsOn edges falls (node_at falls place) (node_at falls v)) (sym e) (Itself (node_at falls place))
              | inr never ↦ absurd never
            ]);
        reached = (λ n rests. inr (place, contained place wanted (subst (λ (ws : List ℕ). In place ws) (sym is) (inl refl)), rests));
      }

-- ---- sets of places

less-by : (a b : ℕ) → is_lt (nat_cmp a b) ≡ true → a < b
less-by a b h =
    by_bool (ltb a b) (a < b)
    (λ t. ltb-true a b t)
    (λ f. by_bool (eqb a b) (a < b) (λ e. absurd (let never : false ≡ true = rw (f, e) at h in cc)) (λ e. absurd (let never : false ≡ true = rw (f, e) at h in cc)))

pub all-less : (p : ℕ) (ws : List ℕ) → All (λ w. IsLtBy nat_cmp w p) ws → All (λ w. w < p) ws
all-less p ws h k d low = less-by (get_or ws k d) p (ap is_lt (h k d low))

or-cases : (a b : Bool) → (a || b) ≡ true → (a ≡ true) ⊎ (b ≡ true)
or-cases true b e = inl refl
or-cases false b e = inr e

or-left : (a b : Bool) → a ≡ true → (a || b) ≡ true
or-left true b e = refl
or-left false b e = absurd (let never : false ≡ true = e in cc)

or-right : (a b : Bool) → b ≡ true → (a || b) ≡ true
or-right true b e = refl
or-right false b e = e

module _ (old new : BTreeSet ℕ) (fed : ℕ → Bool) (is : (w : ℕ) → contains nat_cmp new w ≡ (contains nat_cmp old w || fed w)) where
  has : (s : BTreeSet ℕ) (w : ℕ) → contains nat_cmp s w ≡ true → In w s.keys
  has s w t = placed w s.keys ((btree_set_contains_iff nat_cmp_total exact_unsigned s w).0 t)

  pub set-came : (w : ℕ) → In w new.keys → In w old.keys ⊎ (fed w ≡ true)
  set-came w m =
      let t : contains nat_cmp new w ≡ true = (btree_set_contains_iff nat_cmp_total exact_unsigned new w).1 (contained w new.keys m) in
      elim (or-cases (contains nat_cmp old w) (fed w) (sym (is w) ∙ t)) [ inl k ↦ inl (has old w k) | inr k ↦ inr k ]

  pub set-comes : (w : ℕ) → In w old.keys ⊎ (fed w ≡ true) → In w new.keys
  set-comes w (inl m) =
      let t : contains nat_cmp old w ≡ true = (btree_set_contains_iff nat_cmp_total exact_unsigned old w).1 (contained w old.keys m) in
      has new w (is w ∙ or-left (contains nat_cmp old w) (fed w) t)
  set-comes w (inr k) = has new w (is w ∙ or-right (contains nat_cmp old w) (fed w) k)

pub last-below : (ws rest : List ℕ) (p left : ℕ) → ws ≡ rest ++ p ∷ [] → All (λ w. w < left) ws → p < left
last-below ws rest p left split below =
    All-contains (λ w. w < left) ws p below (contained p ws (subst (λ (vs : List ℕ). In p vs) (sym split) (in-right p rest (p ∷ []) (inl refl))))

pub none-wanted : (ws : List ℕ) → (0 < length ws → ⊥) → ws ≡ []
none-wanted [] h = refl
none-wanted (w ∷ ws) h = absurd (h (omega arith))

-- ---- a node that the list does not have

-- it rests on no fall
pub none-rested : (edges : List Edge) (falls : List Fall) (node : ℕ) → (In node (fallen falls) → ⊥) → Picks (IsRested edges falls node) falls []
none-rested edges falls node none =
    pick-nil (IsRested edges falls node) falls (λ fall m rests. none (subst (λ (n : ℕ). In n (fallen falls)) (sym (rests-absent edges falls node fall.node none rests)) (in-fallen falls fall m)))

-- a node that has no place is such a one
pub not-placed : (falls : List Fall) (places : ℕ → Option ℕ) → ArePlaces falls (length falls) places → (n : ℕ) → places n ≡ None → In n (fallen falls) → ⊥
not-placed falls places table n none h =
    let k = at-place falls n h in
    let never : None ≡ Some k.0 = sym none ∙ subst (λ (m : ℕ). places m ≡ Some k.0) k.2 (table.each k.0 k.1) in cc
