-- The part of a falling list on which a node rests: what it is, and how it is found backwards.
use Rattle.std.proofs.Common.{◌≡◌, ℕ, zero, suc, ◌<◌, ◌⊎◌, inl, inr, ◌↔◌, Bool, true, false, List, [], ◌∷◌, ◌++◌, length, filter, nat_eq, refl, sym, ap, ◌∙◌, subst, arith, append_assoc, eq-eqb}
use Rattle.std.specs.List.{Contains, IsDistinct, AllByRecursion, list_all}
use Rattle.std.specs.Set.{is_member}
use Rattle.std.proofs.lemmas.List.{append-nil, map-append}
use Rattle.std.proofs.lemmas.List.Elements.{filter-append}
use Rattle.std.proofs.lemmas.Map.Keys.{IsDistinct-head, IsDistinct-tail}
use Rattle.cq_atom.specs.declared.edge.Edge.{Edge}
use Rattle.cq_match.specs.declared.falls.Fall.{Fall}
use Rattle.cq_match.specs.declared.falls.Reason.{Reason}
use Rattle.cq_match.specs.declared.falls.Reason.TheVariants.{NotAble, Unmet}
use Rattle.cq_match.specs.Graph.{edges_to}
use Rattle.cq_match.specs.Falling.{is_unmet, HasReason, fallen, IsFallingAfter, IsFalling}
use Rattle.cq_match.specs.Resting.{RestsOn, Itself, ByProvider, IsPartFor, EndsWith}
use Rattle.cq_match.specs.Steps.Resting.{Picks, FallsOnce, IsRested}
use Rattle.cq_match.proofs.Bridge.{none-Contains, here-Contains, later-Contains}
use Rattle.cq_match.proofs.Ranks.{Nodes}
use Rattle.cq_match.proofs.Tests.{by_bool, both, and_left, and_right}
use Rattle.cq_match.proofs.Union.{member-contained, contained-member}

-- ---- members

module _ {X : Type 0} where
  -- x stands in the list
  abbrev pub In : X → List X → Type 0
  In x [] = ⊥
  In x (y ∷ ys) = (x ≡ y) ⊎ In x ys

  pub in-left : (x : X) (xs ys : List X) → In x xs → In x (xs ++ ys)
  in-left x [] ys h = absurd h
  in-left x (z ∷ xs) ys (inl e) = inl e
  in-left x (z ∷ xs) ys (inr h) = inr (in-left x xs ys h)

  pub in-right : (x : X) (xs ys : List X) → In x ys → In x (xs ++ ys)
  in-right x [] ys h = h
  in-right x (z ∷ xs) ys h = inr (in-right x xs ys h)

  pub in-append : (x : X) (xs ys : List X) → In x (xs ++ ys) → In x xs ⊎ In x ys
  in-append x [] ys h = inr h
  in-append x (z ∷ xs) ys (inl e) = inl (inl e)
  in-append x (z ∷ xs) ys (inr h) = elim (in-append x xs ys h) [ inl k ↦ inl (inr k) | inr k ↦ inr k ]

  pub contained : (x : X) (xs : List X) → In x xs → Contains xs x
  contained x [] h = absurd h
  contained x (y ∷ xs) (inl e) = subst (λ z. Contains (y ∷ xs) z) (sym e) (here-Contains y xs)
  contained x (y ∷ xs) (inr h) = later-Contains y x xs (contained x xs h)

  pub placed : (x : X) (xs : List X) → Contains xs x → In x xs
  placed x [] h = absurd (none-Contains x h)
  placed x (y ∷ xs) (zero, low, at) = inl (sym at)
  placed x (y ∷ xs) (suc k, low, at) = inr (placed x xs (k, (let l : suc k < suc (length xs) = low in omega arith), at))

  -- a list is split at each of its members
  split-at : (x : X) (xs : List X) → In x xs → (front : List X) × (back : List X) × (xs ≡ front ++ x ∷ back)
  split-at x [] h = absurd h
  split-at x (y ∷ xs) (inl e) = ([], xs, ap (λ z. z ∷ xs) (sym e))
  split-at x (y ∷ xs) (inr h) = let more = split-at x xs h in (y ∷ more.0, more.1, ap (λ zs. y ∷ zs) more.2)

  pub in-filter : (p : X → Bool) (xs : List X) (x : X) → In x xs → p x ≡ true → In x (filter p xs)
  in-filter p [] x h t = absurd h
  in-filter p (y ∷ xs) x (inl e) t = let k : p y ≡ true = ap p (sym e) ∙ t in rw k (inl e)
  in-filter p (y ∷ xs) x (inr h) t =
      by_bool (p y) (In x (filter p (y ∷ xs))) (λ k. rw k (inr (in-filter p xs x h t))) (λ k. rw k (in-filter p xs x h t))

  pub from-filter : (p : X → Bool) (xs : List X) (x : X) → In x (filter p xs) → In x xs × (p x ≡ true)
  from-filter p [] x h = absurd h
  from-filter p (y ∷ xs) x h =
      by_bool (p y) (In x (y ∷ xs) × (p x ≡ true))
      (λ k.
      let inside : In x (y ∷ filter p xs) = rw k at h in
      elim inside [ inl e ↦ (inl e, ap p e ∙ k) | inr m ↦ let more = from-filter p xs x m in (inr more.0, more.1) ])
      (λ k.
      let inside : In x (filter p xs) = rw k at h in
      let more = from-filter p xs x inside in (inr more.0, more.1))

in-all : (p : Edge → Bool) (es : List Edge) (e : Edge) → list_all p es ≡ true → In e es → p e ≡ true
in-all p [] e h m = absurd m
in-all p (x ∷ es) e h (inl is) = ap p is ∙ and_left (p x) (list_all p es) h
in-all p (x ∷ es) e h (inr m) = in-all p es e (and_right (p x) (list_all p es) h) m

all-in : (p : Edge → Bool) (es : List Edge) → ((e : Edge) → In e es → p e ≡ true) → list_all p es ≡ true
all-in p [] h = refl
all-in p (x ∷ es) h = both (p x) (list_all p es) (h x (inl refl)) (all-in p es (λ e m. h e (inr m)))

is-in : (n : ℕ) (ns : List ℕ) → is_member nat_eq ns n ≡ true → In n ns
is-in n ns t = placed n ns (member-contained ns n t)

in-is : (n : ℕ) (ns : List ℕ) → In n ns → is_member nat_eq ns n ≡ true
in-is n ns h = contained-member ns n (contained n ns h)

-- ---- falls and their nodes

pub in-fallen : (falls : List Fall) (fall : Fall) → In fall falls → In fall.node (fallen falls)
in-fallen [] fall h = absurd h
in-fallen (f ∷ falls) fall (inl e) = inl (ap (λ x. x.node) e)
in-fallen (f ∷ falls) fall (inr h) = inr (in-fallen falls fall h)

fall-in : (falls : List Fall) (n : ℕ) → In n (fallen falls) → (fall : Fall) × In fall falls × (n ≡ fall.node)
fall-in [] n h = absurd h
fall-in (f ∷ falls) n (inl e) = (f, inl refl, e)
fall-in (f ∷ falls) n (inr h) = let more = fall-in falls n h in (more.0, inr more.1, more.2)

not-again : (n : ℕ) (ns : List ℕ) → IsDistinct nat_eq (n ∷ ns) → In n ns → ⊥
not-again n ns h m = apart ns (IsDistinct-head nat_eq n ns h) m
  where
    apart : (ms : List ℕ) → AllByRecursion (λ y. nat_eq n y ≡ false) ms → In n ms → ⊥
    apart [] a m = m
    apart (y ∷ ms) a (inl e) = absurd (let never : false ≡ true = sym a.0 ∙ ap (nat_eq n) (sym e) ∙ eq-eqb n n refl in cc)
    apart (y ∷ ms) a (inr m) = apart ms a.1 m

-- no node stands on both sides of a cut
not-both : (xs ys : List ℕ) → IsDistinct nat_eq (xs ++ ys) → (n : ℕ) → In n xs → In n ys → ⊥
not-both [] ys h n m k = m
not-both (x ∷ xs) ys h n (inl e) k = not-again x (xs ++ ys) h (in-right x xs ys (subst (λ z. In z ys) e k))
not-both (x ∷ xs) ys h n (inr m) k = not-both xs ys (IsDistinct-tail nat_eq x (xs ++ ys) h) n m k

-- a node has one fall
pub one-fall : (falls : List Fall) → IsDistinct nat_eq (fallen falls) → (a b : Fall) → In a falls → In b falls → a.node ≡ b.node → a ≡ b
one-fall [] h a b m k e = absurd m
one-fall (f ∷ falls) h a b (inl x) (inl y) e = x ∙ sym y
one-fall (f ∷ falls) h a b (inl x) (inr k) e = absurd (not-again f.node (fallen falls) h (subst (λ n. In n (fallen falls)) (sym e ∙ ap (λ z. z.node) x) (in-fallen falls b k)))
one-fall (f ∷ falls) h a b (inr m) (inl y) e = absurd (not-again f.node (fallen falls) h (subst (λ n. In n (fallen falls)) (e ∙ ap (λ z. z.node) y) (in-fallen falls a m)))
one-fall (f ∷ falls) h a b (inr m) (inr k) e = one-fall falls (IsDistinct-tail nat_eq f.node (fallen falls) h) a b m k e

fallen-append : (xs ys : List Fall) → fallen (xs ++ ys) ≡ fallen xs ++ fallen ys
fallen-append xs ys = map-append (λ (f : Fall). f.node) xs ys

module _ (nodes : Nodes) (edges : List Edge) where
  -- the providers of a reason stand in front of the fall
  pub fed-before : (gone : List ℕ) (front : List Fall) (fall : Fall) (back : List Fall) → IsFallingAfter nodes edges gone (front ++ fall ∷ back) → (post : ℕ) → fall.reason ≡ Unmet post
      → (e : Edge) → In e (edges_to fall.node post edges) → In e.provider (gone ++ fallen front)
  fed-before gone [] fall back h post is e m =
      let some = h.0 in
      let node = some.1 in
      let has : HasReason (is_unmet edges gone node.0) node (Unmet post) = subst (λ (r : Reason). HasReason (is_unmet edges gone node.0) node r) is some.4.1 in
      let unmet : is_unmet edges gone fall.node post ≡ true = subst (λ (n : ℕ). is_unmet edges gone n post ≡ true) some.4.0 has.1 in
      in-left e.provider gone [] (is-in e.provider gone (in-all (λ edge. is_member nat_eq gone edge.provider) (edges_to fall.node post edges) e unmet m))
  fed-before gone (f ∷ front) fall back h post is e m =
      subst (λ (ns : List ℕ). In e.provider ns) (append_assoc gone (f.node ∷ []) (fallen front)) (fed-before (gone ++ f.node ∷ []) front fall back h.1 post is e m)

-- ---- what a node of a front rests on stands in that front

module _ (edges : List Edge) (falls : List Fall) (good : FallsOnce edges falls) where
  pub closed : (front back : List Fall) → falls ≡ front ++ back → (n m : ℕ) → RestsOn edges falls n m → In n (fallen front) → In m (fallen front)
  closed front back cut _ _ (Itself n) h = h
  closed front back cut _ _ (ByProvider n post m edge has leads rest) h =
      let reason : Fall = record { node = n; reason = Unmet post } in
      let there = fall-in front n h in
      let listed : In there.0 falls = subst (λ (fs : List Fall). In there.0 fs) (sym cut) (in-left there.0 front back there.1) in
      let same : reason ≡ there.0 = one-fall falls good.once reason there.0 (placed reason falls has) listed there.2 in
      let inside : In reason front = subst (λ (f : Fall). In f front) (sym same) there.1 in
      let parts = split-at reason front inside in
      let whole : falls ≡ parts.0 ++ reason ∷ (parts.1 ++ back) = cut ∙ ap (λ (fs : List Fall). fs ++ back) parts.2 ∙ append_assoc parts.0 (reason ∷ parts.1) back in
      let before : In edge.provider (fallen parts.0) =
      fed-before good.nodes edges [] parts.0 reason (parts.1 ++ back) (subst (λ (fs : List Fall). IsFalling good.nodes edges fs) whole good.falling) post refl edge (placed edge (edges_to n post edges) leads) in
      let fed : In edge.provider (fallen front) =
      subst (λ (fs : List Fall). In edge.provider (fallen fs)) (sym parts.2) (subst (λ (ns : List ℕ). In edge.provider ns) (sym (fallen-append parts.0 (reason ∷ parts.1))) (in-left edge.provider (fallen parts.0) (fallen (reason ∷ parts.1)) before)) in
      closed front back cut edge.provider m rest fed

-- ---- what is picked

pub pick-nil : (P : Fall → Type 0) (falls : List Fall) → ((fall : Fall) → In fall falls → P fall → ⊥) → Picks P falls []
pick-nil P [] none = tt
pick-nil P (f ∷ falls) none = inl (none f (inl refl), pick-nil P falls (λ g m. none g (inr m)))

picked-in : (P : Fall → Type 0) (falls part : List Fall) → Picks P falls part → (fall : Fall) → In fall part → In fall falls × P fall
picked-in P [] [] h fall m = absurd m
picked-in P [] (x ∷ part) h fall m = absurd h
picked-in P (f ∷ falls) part (inl h) fall m = let more = picked-in P falls part h.1 fall m in (inr more.0, more.1)
picked-in P (f ∷ falls) part (inr h) fall m =
    let there : In fall (f ∷ h.1) = subst (λ (fs : List Fall). In fall fs) h.2 m in
    elim there [
      | inl e ↦ (inl e, subst P (sym e) h.0)
      | inr k ↦ let more = picked-in P falls h.1 h.3 fall k in (inr more.0, more.1)
    ]

in-picked : (P : Fall → Type 0) (falls part : List Fall) → Picks P falls part → (fall : Fall) → In fall falls → P fall → In fall part
in-picked P [] part h fall m p = absurd m
in-picked P (f ∷ falls) part (inl h) fall (inl e) p = absurd (h.0 (subst P e p))
in-picked P (f ∷ falls) part (inl h) fall (inr m) p = in-picked P falls part h.1 fall m p
in-picked P (f ∷ falls) part (inr h) fall (inl e) p = subst (λ (fs : List Fall). In fall fs) (sym h.2) (inl e)
in-picked P (f ∷ falls) part (inr h) fall (inr m) p = subst (λ (fs : List Fall). In fall fs) (sym h.2) (inr (in-picked P falls h.1 h.3 fall m p))

picked-filter : (P : Fall → Type 0) (keeps : Fall → Bool) (falls part : List Fall) → Picks P falls part → ((fall : Fall) → In fall falls → (keeps fall ≡ true) ↔ P fall) → part ≡ filter keeps falls
picked-filter P keeps [] [] h same = refl
picked-filter P keeps [] (x ∷ part) h same = absurd h
picked-filter P keeps (f ∷ falls) part (inl h) same =
    by_bool (keeps f) (part ≡ filter keeps (f ∷ falls))
    (λ t. absurd (h.0 ((same f (inl refl)).0 t)))
    (λ e. rw e (picked-filter P keeps falls part h.1 (λ g m. same g (inr m))))
picked-filter P keeps (f ∷ falls) part (inr h) same =
    let t : keeps f ≡ true = (same f (inl refl)).1 h.0 in
    rw t (h.2 ∙ ap (λ (fs : List Fall). f ∷ fs) (picked-filter P keeps falls h.1 h.3 (λ g m. same g (inr m))))

-- ---- what a node rests on

module _ (edges : List Edge) (falls : List Fall) where
  -- what a provider rests on, the waiter rests on
  pub rests-next : (n m post : ℕ) (e : Edge) → RestsOn edges falls n m → In (record { node = m; reason = Unmet post }) falls → In e (edges_to m post edges) → RestsOn edges falls n e.provider
  rests-next _ _ post e (Itself n) h m = ByProvider n post e.provider e (contained (record { node = n; reason = Unmet post }) falls h) (contained e (edges_to n post edges) m) (Itself e.provider)
  rests-next _ _ post e (ByProvider n first m edge has leads rest) h k = ByProvider n first e.provider edge has leads (rests-next edge.provider m post e rest h k)

  -- a node that the list does not have rests on itself alone
  pub rests-absent : (n m : ℕ) → (In n (fallen falls) → ⊥) → RestsOn edges falls n m → n ≡ m
  rests-absent _ _ none (Itself n) = refl
  rests-absent _ _ none (ByProvider n post m edge has leads rest) = absurd (none (in-fallen falls (record { node = n; reason = Unmet post }) (placed (record { node = n; reason = Unmet post }) falls has)))

  -- the part that is picked is the part of the definition
  pub picked-part : (node : ℕ) (part : List Fall) → Picks (IsRested edges falls node) falls part → IsPartFor edges falls node part
  picked-part node part h =
      let P : Fall → Type 0 = IsRested edges falls node in
      let keeps : Fall → Bool = λ f. is_member nat_eq (fallen part) f.node in
      let same : (fall : Fall) → In fall falls → (keeps fall ≡ true) ↔ P fall = λ fall m. (
        λ t.
            let there = fall-in part fall.node (is-in fall.node (fallen part) t) in
            subst (λ (n : ℕ). RestsOn edges falls node n) (sym there.2) (picked-in P falls part h there.0 there.1).1,
        λ p. in-is fall.node (fallen part) (in-fallen part fall (in-picked P falls part h fall m p)),
      ) in
      record { keeps = keeps; exact = (λ fall m. same fall (placed fall falls m)); kept = picked-filter P keeps falls part h same }

  module _ (node : ℕ) (part : List Fall) (is : IsPartFor edges falls node part) where
    -- the list does not have the node
    pub part-absent : is_member nat_eq (fallen falls) node ≡ false → part ≡ []
    part-absent none =
        is.kept ∙ empty falls (λ fall m.
        by_bool (is.keeps fall) (is.keeps fall ≡ false)
        (λ t.
        let same = rests-absent node fall.node (λ h. absurd (let never : false ≡ true = sym none ∙ in-is node (fallen falls) h in cc)) ((is.exact fall (contained fall falls m)).0 t) in
        absurd (let never : false ≡ true = sym none ∙ in-is node (fallen falls) (subst (λ (n : ℕ). In n (fallen falls)) (sym same) (in-fallen falls fall m)) in cc))
        (λ f. f))
      where
        empty : (fs : List Fall) → ((fall : Fall) → In fall fs → is.keeps fall ≡ false) → filter is.keeps fs ≡ []
        empty [] h = refl
        empty (f ∷ fs) h = let no = h f (inl refl) in rw no (empty fs (λ g m. h g (inr m)))

    -- the part ends with the node's own fall
    pub part-last : FallsOnce edges falls → Contains (fallen falls) node → EndsWith part node
    part-last good has =
        let own = fall-in falls node (placed node (fallen falls) has) in
        let parts = split-at own.0 falls own.1 in
        let cut : falls ≡ (parts.0 ++ own.0 ∷ []) ++ parts.1 = parts.2 ∙ sym (append_assoc parts.0 (own.0 ∷ []) parts.1) in
        let kept : is.keeps own.0 ≡ true = (is.exact own.0 (contained own.0 falls own.1)).1 (subst (λ (n : ℕ). RestsOn edges falls node n) own.2 (Itself node)) in
        let distinct : IsDistinct nat_eq (fallen (parts.0 ++ own.0 ∷ []) ++ fallen parts.1) =
        subst (λ (ns : List ℕ). IsDistinct nat_eq ns) (ap fallen cut ∙ fallen-append (parts.0 ++ own.0 ∷ []) parts.1) good.once in
        let upto : In node (fallen (parts.0 ++ own.0 ∷ [])) = subst (λ (n : ℕ). In n (fallen (parts.0 ++ own.0 ∷ []))) (sym own.2) (in-fallen (parts.0 ++ own.0 ∷ []) own.0 (in-right own.0 parts.0 (own.0 ∷ []) (inl refl))) in
        let none : (fall : Fall) → In fall parts.1 → is.keeps fall ≡ false = λ fall m.
        by_bool (is.keeps fall) (is.keeps fall ≡ false)
        (λ t.
        let listed : In fall falls = subst (λ (fs : List Fall). In fall fs) (sym cut) (in-right fall (parts.0 ++ own.0 ∷ []) parts.1 m) in
        let rested = (is.exact fall (contained fall falls listed)).0 t in
        absurd (not-both (fallen (parts.0 ++ own.0 ∷ [])) (fallen parts.1) distinct fall.node (closed edges falls good (parts.0 ++ own.0 ∷ []) parts.1 cut node fall.node rested upto) (in-fallen parts.1 fall m)))
        (λ f. f) in
        let after : filter is.keeps (own.0 ∷ parts.1) ≡ own.0 ∷ [] = rw kept (ap (λ (fs : List Fall). own.0 ∷ fs) (empty parts.1 none)) in
        record {
          front = filter is.keeps parts.0;
          last = own.0;
          splits = is.kept ∙ ap (filter is.keeps) parts.2 ∙ filter-append is.keeps parts.0 (own.0 ∷ parts.1) ∙ ap (λ (fs : List Fall). filter is.keeps parts.0 ++ fs) after;
          itself = sym own.2;
        }
      where
        empty : (fs : List Fall) → ((fall : Fall) → In fall fs → is.keeps fall ≡ false) → filter is.keeps fs ≡ []
        empty [] h = refl
        empty (f ∷ fs) h = let no = h f (inl refl) in rw no (empty fs (λ g m. h g (inr m)))

    -- the part is falling itself
    module _ (nodes : Nodes) (falling : IsFalling nodes edges falls) where
      abbrev kept_of : List Fall → List Fall
      kept_of fs = filter is.keeps fs

      still-falling : (before : List Fall) (after : List Fall) → falls ≡ before ++ after → IsFallingAfter nodes edges (fallen before) after → IsFallingAfter nodes edges (fallen (kept_of before)) (kept_of after)
      still-falling before [] cut h = tt
      still-falling before (f ∷ after) cut h =
          let cut' : falls ≡ (before ++ f ∷ []) ++ after = cut ∙ sym (append_assoc before (f ∷ []) after) in
          let later : IsFallingAfter nodes edges (fallen (before ++ f ∷ [])) after = subst (λ (ns : List ℕ). IsFallingAfter nodes edges ns after) (sym (fallen-append before (f ∷ []))) h.1 in
          let more = still-falling (before ++ f ∷ []) after cut' later in
          let listed : In f falls = subst (λ (fs : List Fall). In f fs) (sym cut) (in-right f before (f ∷ after) (inl refl)) in
          let here : kept_of (before ++ f ∷ []) ≡ kept_of before ++ kept_of (f ∷ []) = filter-append is.keeps before (f ∷ []) in
          by_bool (is.keeps f) (IsFallingAfter nodes edges (fallen (kept_of before)) (kept_of (f ∷ after)))
          (λ t.
          let one : kept_of (before ++ f ∷ []) ≡ kept_of before ++ f ∷ [] = here ∙ ap (λ (fs : List Fall). kept_of before ++ fs) (rw t refl) in
          let rest : IsFallingAfter nodes edges (fallen (kept_of before) ++ f.node ∷ []) (kept_of after) =
          subst (λ (ns : List ℕ). IsFallingAfter nodes edges ns (kept_of after)) (ap fallen one ∙ fallen-append (kept_of before) (f ∷ [])) more in
          let some = h.0 in
          let has = kept-has before f after cut t some.1 some.4.0 f.reason refl some.4.1 in
          rw t ((some.0, some.1, some.2, some.3, (some.4.0, has)), rest))
          (λ e.
          let one : kept_of (before ++ f ∷ []) ≡ kept_of before = here ∙ ap (λ (fs : List Fall). kept_of before ++ fs) (rw e refl) ∙ append-nil (kept_of before) in
          rw e (subst (λ (fs : List Fall). IsFallingAfter nodes edges (fallen fs) (kept_of after)) one more))
        where
          kept-has : (before : List Fall) (f : Fall) (after : List Fall) → falls ≡ before ++ f ∷ after → is.keeps f ≡ true → (x : ℕ × ℕ × Bool) → x.0 ≡ f.node → (r : Reason) → f.reason ≡ r
              → HasReason (is_unmet edges (fallen before) x.0) x r → HasReason (is_unmet edges (fallen (kept_of before)) x.0) x r
          kept-has before f after cut t x same NotAble is_reason has = has
          kept-has before f after cut t x same (Unmet post) is_reason has =
              let listed : In f falls = subst (λ (fs : List Fall). In f fs) (sym cut) (in-right f before (f ∷ after) (inl refl)) in
              let reason : Fall = record { node = f.node; reason = Unmet post } in
              let with_reason : Reason → Fall = λ r. record { node = f.node; reason = r } in
              let is_f : f ≡ reason = ap with_reason is_reason in
              let rested : RestsOn edges falls node f.node = (is.exact f (contained f falls listed)).0 t in (
                has.0,
                all-in (λ edge. is_member nat_eq (fallen (kept_of before)) edge.provider) (edges_to x.0 post edges) (λ e m.
                    let there : In e (edges_to f.node post edges) = subst (λ (n : ℕ). In e (edges_to n post edges)) same m in
                    let gone : In e.provider (fallen before) = is-in e.provider (fallen before) (in-all (λ edge. is_member nat_eq (fallen before) edge.provider) (edges_to x.0 post edges) e has.1 m) in
                    let provider = fall-in before e.provider gone in
                    let next : RestsOn edges falls node e.provider = rests-next node f.node post e rested (subst (λ (g : Fall). In g falls) is_f listed) there in
                    let listed' : In provider.0 falls = subst (λ (fs : List Fall). In provider.0 fs) (sym cut) (in-left provider.0 before (f ∷ after) provider.1) in
                    let keeps : is.keeps provider.0 ≡ true = (is.exact provider.0 (contained provider.0 falls listed')).1 (subst (λ (n : ℕ). RestsOn edges falls node n) provider.2 next) in
                    in-is e.provider (fallen (kept_of before)) (subst (λ (n : ℕ). In n (fallen (kept_of before))) (sym provider.2) (in-fallen (kept_of before) provider.0 (in-filter is.keeps before provider.0 provider.1 keeps)))),
              )

      pub part-falling : IsFalling nodes edges part
      part-falling = subst (λ (fs : List Fall). IsFalling nodes edges fs) (sym is.kept) (still-falling [] falls refl falling)
