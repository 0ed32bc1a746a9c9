-- What no selection has. All of it is said of lists of members, so it holds whatever is chosen later.
use Rattle.std.proofs.Common.{◌≡◌, ℕ, zero, suc, ◌<◌, ◌≤◌, ◌⊎◌, ⊎_elim, Bool, true, false, List, [], ◌∷◌, ◌++◌, length, get_or, map, eqb, nat_eq, refl, sym, ap, ◌∙◌, subst, arith}
use Rattle.std.specs.List.{All, AllByRecursion, Contains, IsDistinct}
use Rattle.std.proofs.lemmas.Bool.{eqb-false}
use Rattle.std.proofs.lemmas.List.{get_or_default, get_or-map, length-map}
use Rattle.std.proofs.lemmas.List.Elements.{All-contains, All-from_recursion, Contains-append_left, Contains-push}
use Rattle.std.proofs.lemmas.Map.Keys.{IsDistinct-head, IsDistinct-tail}
use Rattle.cq_select.specs.declared.supply.Supply.{Supply}
use Rattle.cq_select.specs.Selection.{member_count, owner_of, needs_of, suppliers_of, IsSupplied, IsSelection}
use Rattle.cq_select.specs.Steps.Facts.{IsWithin, Nogood, Refuted}

-- ---- of a list whose values are apart, two elements of one value are one

pub by_bool : (b : Bool) (P : Type 0) → (b ≡ true → P) → (b ≡ false → P) → P
by_bool true P t f = t refl
by_bool false P t f = f refl

module _ (f : ℕ → ℕ) where
  later : (x : ℕ) (xs : List ℕ) (b k : ℕ) → AllByRecursion (λ y. eqb (f x) y ≡ false) (map f xs) → k < length xs → get_or xs k b ≡ b → f x ≡ f b → ⊥
  later x xs b k d low at e =
      let P : ℕ → Type 0 = λ y. eqb (f x) y ≡ false in
      let inside : k < length (map f xs) = rw (length-map xs f) low in
      let there : get_or (map f xs) k (f b) ≡ f b = get_or-map f xs k b (f b) low ∙ ap f at in
      eqb-false (f x) (f b) (subst P there (All-from_recursion P (map f xs) d k (f b) inside)) e

  pub once : (xs : List ℕ) (a b : ℕ) → IsDistinct nat_eq (map f xs) → Contains xs a → Contains xs b → f a ≡ f b → a ≡ b
  once [] a b d (j, low, at) h e = absurd (let none : j < 0 = low in omega arith)
  once (x ∷ xs) a b d (zero, low, at) (zero, low', at') e = sym at ∙ at'
  once (x ∷ xs) a b d (zero, low, at) (suc k, low', at') e = absurd (later x xs b k (IsDistinct-head nat_eq (f x) (map f xs) d) (let l : suc k < suc (length xs) = low' in omega arith) at' (ap f at ∙ e))
  once (x ∷ xs) a b d (suc j, low, at) (zero, low', at') e = absurd (later x xs a j (IsDistinct-head nat_eq (f x) (map f xs) d) (let l : suc j < suc (length xs) = low in omega arith) at (ap f at' ∙ sym e))
  once (x ∷ xs) a b d (suc j, low, at) (suc k, low', at') e =
      once xs a b (IsDistinct-tail nat_eq (f x) (map f xs) d) (j, (let l : suc j < suc (length xs) = low in omega arith), at) (k, (let l : suc k < suc (length xs) = low' in omega arith), at') e

module _ {A : Type 0} (supply : Supply A) where
  pub supplied-by : (below : List ℕ) (m atom : ℕ) → Contains below m → Contains (suppliers_of supply atom) m → IsSupplied supply below atom
  supplied-by below m atom (k, low, at) h = (k, m, low, at, h)

  pub supplied-wider : (below more : List ℕ) (atom : ℕ) → IsWithin below more → IsSupplied supply below atom → IsSupplied supply more atom
  supplied-wider below more atom w (k, m, low, at, h) = supplied-by more m atom (w m (k, low, at)) h

  -- where none of the suppliers is chosen
  pub supplied-none : (below shown : List ℕ) (atom count : ℕ) → shown ≡ suppliers_of supply atom → length shown ≤ count → ((k : ℕ) → k < count → Contains below (get_or shown k 0) → ⊥) → IsSupplied supply below atom → ⊥
  supplied-none below shown atom count is all none (k, m, low, at, (j, inside, same)) =
      let there : j < length shown = rw is inside in
      let value : get_or shown j 0 ≡ m = ap (λ (l : List ℕ). get_or l j 0) is ∙ get_or_default (suppliers_of supply atom) j 0 m inside ∙ same in
      none j (omega arith) (subst (Contains below) (sym value) (k, low, at))

module _ {A : Type 0} (supply : Supply A) (wanted : List ℕ) where
  pub refuted-more : (reason more : List ℕ) (m : ℕ) → IsWithin reason more → Refuted supply wanted reason m → Refuted supply wanted more m
  refuted-more reason more m w r = record { never = λ chosen s h i. r.never chosen s (λ q j. h q (w q j)) i }

  pub refuted-always : (reason : List ℕ) (m : ℕ) → Refuted supply wanted [] m → Refuted supply wanted reason m
  refuted-always reason m r = refuted-more [] reason m (λ q (k, low, at). absurd (let none : k < 0 = low in omega arith)) r

  -- a number that is no member's
  pub refuted-unknown : (m : ℕ) → member_count supply ≤ m → Refuted supply wanted [] m
  refuted-unknown m past = record {
    never = λ chosen s h i.
        let low : m < member_count supply = All-contains (λ q. q < member_count supply) chosen m s.known i in
        omega arith;
  }

  -- another member of its owner
  pub refuted-taken : (reason : List ℕ) (m other : ℕ) → Contains reason other → owner_of supply other ≡ owner_of supply m → (other ≡ m → ⊥) → Refuted supply wanted reason m
  refuted-taken reason m other i e ne = record { never = λ chosen s h j. ne (once (owner_of supply) chosen other m s.apart (h other i) j e) }

  unsupplied : (reason : List ℕ) (atom : ℕ) → ((k : ℕ) → k < length (suppliers_of supply atom) → Refuted supply wanted reason (get_or (suppliers_of supply atom) k 0))
      → (chosen : List ℕ) → IsSelection supply wanted chosen → IsWithin reason chosen → IsSupplied supply chosen atom → ⊥
  unsupplied reason atom all chosen s h (k, m, low, at, (j, inside, is)) =
      (all j inside).never chosen s h (subst (Contains chosen) (sym (get_or_default (suppliers_of supply atom) j 0 m inside ∙ is)) (k, low, at))

  -- all suppliers of a wanted atom are refuted
  pub nogood-wanted : (reason : List ℕ) (atom : ℕ) → Contains wanted atom → ((k : ℕ) → k < length (suppliers_of supply atom) → Refuted supply wanted reason (get_or (suppliers_of supply atom) k 0)) → Nogood supply wanted reason
  nogood-wanted reason atom i all = record { never = λ chosen s h. unsupplied reason atom all chosen s h (All-contains (IsSupplied supply chosen) wanted atom s.wants i) }

  -- all suppliers of an atom that a member needs are refuted
  pub nogood-needed : (reason : List ℕ) (cause atom : ℕ) → Contains (needs_of supply cause) atom → ((k : ℕ) → k < length (suppliers_of supply atom) → Refuted supply wanted reason (get_or (suppliers_of supply atom) k 0)) → Nogood supply wanted (reason ++ cause ∷ [])
  nogood-needed reason cause atom i all = record {
    never = λ chosen s h.
        let needs = All-contains (λ q. All (IsSupplied supply chosen) (needs_of supply q)) chosen cause s.needs (h cause (Contains-push reason cause)) in
        unsupplied reason atom all chosen s (λ q j. h q (Contains-append_left reason (cause ∷ []) q j)) (All-contains (IsSupplied supply chosen) (needs_of supply cause) atom needs i);
  }

  -- the rest of a conflict is a reason against one of it
  pub refuted-rest : (conflict reason : List ℕ) (m : ℕ) → Nogood supply wanted conflict → ((q : ℕ) → Contains conflict q → (q ≡ m) ⊎ Contains reason q) → Refuted supply wanted reason m
  refuted-rest conflict reason m n split = record {
    never = λ chosen s h i. n.never chosen s (λ q j. ⊎_elim (λ e. subst (Contains chosen) (sym e) i) (λ r. h q r) (split q j));
  }

  -- a conflict of nobody
  pub nogood-none : (conflict : List ℕ) → Nogood supply wanted conflict → IsWithin conflict [] → (chosen : List ℕ) → IsSelection supply wanted chosen → ⊥
  nogood-none conflict n none chosen s = n.never chosen s (λ q i. let (k, low, at) = none q i in absurd (let never : k < 0 = low in omega arith))
