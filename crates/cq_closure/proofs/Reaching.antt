-- Nodes that are taken one after another.
use Rattle.std.proofs.Common.{◌≡◌, ◌⊎◌, ℕ, zero, suc, ◌+◌, ◌<◌, ◌≤◌, ◌==◌, inl, inr, nat_eq, Bool, true, false, List, [], ◌∷◌, ◌++◌, length, take, set, get_or, refl, sym, ap, subst, ◌∙◌, arith, length-append, get_or-set_same, get_or-set_other}
use Rattle.std.specs.Prelude.{filter, ◌↔◌}
use Rattle.std.specs.List.{All, Contains}
use Rattle.std.proofs.lemmas.Bool.Decides.{Decides-eqb}
use Rattle.std.proofs.lemmas.List.{take_all}
use Rattle.std.proofs.lemmas.List.Elements.{All-filter, All-contains_itself, Contains-append_left, Contains-push, Contains-push_cases, filter_passes}
use Rattle.cq_atom.specs.declared.edge.Edge.{Edge}
use Rattle.cq_closure.specs.Closure.{is_set, IsReached}
use Rattle.cq_closure.specs.Closure.IsReached.{First, Providing}
use Rattle.cq_closure.specs.Steps.Reach.{set_count, is_taken, Takes, IsClosing, AreReached}

by_bool : (b : Bool) (P : Type 0) → (b ≡ true → P) → (b ≡ false → P) → P
by_bool true P f g = f refl
by_bool false P f g = g refl

-- ---- lists

module _ {X : Type 0} where
  each : (P : X → Type 0) (xs : List X) → All P xs → (x : X) → Contains xs x → P x
  each P xs all x h = subst P h.2 (all h.0 x h.1)

  passed : (p : X → Bool) (xs : List X) (k : ℕ) (x : X) → k < length xs → get_or xs k x ≡ x → p x ≡ true → Contains (filter p xs) x
  passed p [] k x low is t = absurd (omega arith)
  passed p (y ∷ xs) zero x low is t = let here : p y ≡ true = ap p is ∙ t in rw here (0, omega arith, is)
  passed p (y ∷ xs) (suc k) x low is t =
      let rest = passed p xs k x (omega arith) is t in
      by_bool (p y) (Contains (filter p (y ∷ xs)) x)
      (λ here. let inside = rest.1 in rw here (suc rest.0, omega (arith, inside), rest.2))
      (λ none. rw none rest)

  all-end : (P : X → Type 0) (xs : List X) (i : ℕ) → length xs ≤ i → All P (take i xs) → All P xs
  all-end P xs i past all = subst (All P) (take_all i xs past) all

differ : (p q : ℕ) → nat_eq p q ≡ false → p ≡ q → ⊥
differ p q n e = let t = (Decides-eqb p q).1 e in let never : true ≡ false = sym t ∙ n in cc

below : (j i : ℕ) → nat_eq j i ≡ false → j < i + 1 → j < i
below j i f low = by_cases (differ j i f)
  where
    by_cases : (j ≡ i → ⊥) → j < i
    by_cases n = omega (arith, n, low)

-- ---- flags

pub set-low : (flags : List Bool) (n : ℕ) → is_set flags n ≡ true → n < length flags
set-low [] n h = cc
set-low (flag ∷ flags) zero h = omega arith
set-low (flag ∷ flags) (suc n) h = let more = set-low flags n h in omega (arith, more)

count-unset : (flags : List Bool) (n : ℕ) → is_set flags n ≡ true → set_count (set flags n false) + 1 ≡ set_count flags
count-unset [] n h = cc
count-unset (true ∷ flags) zero h = refl
count-unset (false ∷ flags) zero h = cc
count-unset (true ∷ flags) (suc n) h = let more = count-unset flags n h in omega (arith, more)
count-unset (false ∷ flags) (suc n) h = count-unset flags n h

unset-here : (flags : List Bool) (n : ℕ) → n < length flags → is_set (set flags n false) n ≡ false
unset-here flags n low = get_or-set_same flags n false false low

unset-other : (flags : List Bool) (n m : ℕ) → nat_eq m n ≡ false → is_set (set flags n false) m ≡ is_set flags m
unset-other flags n m f = get_or-set_other flags n m false false (differ m n f)

-- ---- taking

pub takes-one : (flags : List Bool) (left more : List ℕ) (node : ℕ) → is_set flags node ≡ true → more ≡ left ++ node ∷ [] → Takes flags left (set flags node false) more
takes-one flags left more node spare grew =
    let low = set-low flags node spare in
    let count = count-unset flags node spare in
    let long = ap length grew ∙ length-append left (node ∷ []) in
    record {
      kept = λ n f. by_bool (nat_eq n node) (is_set (set flags node false) n ≡ false)
          (λ t. let same = (Decides-eqb n node).0 t in subst (λ (m : ℕ). is_set (set flags node false) m ≡ false) (sym same) (unset-here flags node low))
          (λ d. unset-other flags node n d ∙ f);
      noted = λ n t f. by_bool (nat_eq n node) (Contains more n)
          (λ s. let same = (Decides-eqb n node).0 s in subst (λ (m : ℕ). Contains more m) (sym same) (subst (λ (xs : List ℕ). Contains xs node) (sym grew) (Contains-push left node)))
          (λ d. absurd (let never : true ≡ false = sym t ∙ sym (unset-other flags node n d) ∙ f in cc));
      stays = λ n h. subst (λ (xs : List ℕ). Contains xs n) (sym grew) (Contains-append_left left (node ∷ []) n h);
      fewer = omega (arith, count, long);
    }

pub takes-none : (flags : List Bool) (left : List ℕ) → Takes flags left flags left
takes-none flags left = record { kept = λ n f. f; noted = λ n t f. absurd (let never : true ≡ false = sym t ∙ f in cc); stays = λ n h. h; fewer = omega arith }

pub takes-then : (a b c : List Bool) (l m n : List ℕ) → Takes a l b m → Takes b m c n → Takes a l c n
takes-then a b c l m n one two =
    let first = one.fewer in
    let second = two.fewer in
    record {
      kept = λ k f. two.kept k (one.kept k f);
      noted = λ k t f. by_bool (is_set b k) (Contains n k) (λ s. two.noted k s f) (λ s. two.stays k (one.noted k t s));
      stays = λ k h. two.stays k (one.stays k h);
      fewer = omega (arith, first, second);
    }

-- one more provider is taken
pub providers-more : (before after : List Bool) (edges : List Edge) (i : ℕ) (d : Edge) → ((n : ℕ) → is_set before n ≡ false → is_set after n ≡ false) → i < length edges
    → ((k : ℕ) (e : Edge) → k < i → k < length edges → is_set before (get_or edges k e).provider ≡ false) → is_set after (get_or edges i d).provider ≡ false
    → (k : ℕ) (e : Edge) → k < i + 1 → k < length edges → is_set after (get_or edges k e).provider ≡ false
providers-more before after edges i d kept low so_far now k e under within =
    by_bool (nat_eq k i) (is_set after (get_or edges k e).provider ≡ false)
    (λ t. let same = (Decides-eqb k i).0 t in
    subst (λ (j : ℕ). is_set after (get_or edges j e).provider ≡ false) (sym same) (subst (λ (x : Edge). is_set after x.provider ≡ false) (one edges i d e low) now))
    (λ f. kept (get_or edges k e).provider (so_far k e (below k i f under) within))
  where
    one : (xs : List Edge) (j : ℕ) (a b : Edge) → j < length xs → get_or xs j a ≡ get_or xs j b
    one [] j a b h = absurd (omega arith)
    one (x ∷ xs) zero a b h = refl
    one (x ∷ xs) (suc j) a b h = one xs j a b (omega arith)

-- one more of the first is looked at
pub first-more : (first before after : List Bool) (i : ℕ) → ((n : ℕ) → is_set before n ≡ false → is_set after n ≡ false) → ((n : ℕ) → n < i → is_set first n ≡ true → is_set before n ≡ false)
    → (is_set first i ≡ true → is_set after i ≡ false) → (n : ℕ) → n < i + 1 → is_set first n ≡ true → is_set after n ≡ false
first-more first before after i kept so_far now n low is =
    by_bool (nat_eq n i) (is_set after n ≡ false)
    (λ t. let same = (Decides-eqb n i).0 t in subst (λ (m : ℕ). is_set after m ≡ false) (sym same) (now (subst (λ (m : ℕ). is_set first m ≡ true) same is)))
    (λ f. kept n (so_far n (below n i f low) is))

-- one node less is left to be looked at
pub closing-on : (edges : List Edge) (may before : List Bool) (left : List ℕ) (waiter : ℕ) (rest : List ℕ) (after : List Bool) (more : List ℕ) (into : List Edge) → left ≡ rest ++ waiter ∷ []
    → into ≡ filter (λ edge. edge.waiter == waiter) edges → Takes before rest after more → All (λ edge. is_set after edge.provider ≡ false) into → IsClosing edges may before left → IsClosing edges may after more
closing-on edges may before left waiter rest after more into popped are takes provided closing =
    record {
      closing = λ e among m f. by_bool (nat_eq e.waiter waiter) ((is_set after e.provider ≡ false) ⊎ Contains more e.waiter)
          (λ t. inl (each (λ (edge : Edge). is_set after edge.provider ≡ false) into provided e (subst (λ (es : List Edge). Contains es e) (sym are) (passed (λ (edge : Edge). edge.waiter == waiter) edges among.0 e among.1 among.2 t))))
          (λ n. by_bool (is_set before e.waiter) ((is_set after e.provider ≡ false) ⊎ Contains more e.waiter)
          (λ s. inr (takes.noted e.waiter s f))
          (λ s. elim (closing.closing e among m s) as (λ _. (is_set after e.provider ≡ false) ⊎ Contains more e.waiter) [
            | inl p ↦ inl (takes.kept e.provider p)
            | inr h ↦ elim (Contains-push_cases rest waiter e.waiter (subst (λ (xs : List ℕ). Contains xs e.waiter) popped h)) as (λ _. (is_set after e.provider ≡ false) ⊎ Contains more e.waiter) [
              | inl k ↦ inr (takes.stays e.waiter k)
              | inr same ↦ absurd (differ e.waiter waiter n (sym same))
            ]
          ]));
    }

-- where those that were taken are left to be looked at
pub closing-starts : (edges : List Edge) (may after : List Bool) (left more : List ℕ) → Takes may left after more → IsClosing edges may after more
closing-starts edges may after left more takes = record { closing = λ e among m f. inr (takes.noted e.waiter m f) }

-- ---- only those that are reached are taken

module _ (edges : List Edge) (may first : List Bool) where
  abbrev reached : ℕ → Type 0
  reached = IsReached edges may first

  pub reached-one : (flags : List Bool) (left more : List ℕ) (node : ℕ) → is_set flags node ≡ true → more ≡ left ++ node ∷ [] → (is_set may node ≡ true → reached node)
      → AreReached edges may first flags left → AreReached edges may first (set flags node false) more
  reached-one flags left more node spare grew is are =
      let low = set-low flags node spare in
      record {
        taken = λ n m f. by_bool (nat_eq n node) (reached n)
            (λ t. let same = (Decides-eqb n node).0 t in subst reached (sym same) (is (are.able node spare)))
            (λ d. are.taken n m (sym (unset-other flags node n d) ∙ f));
        next = λ n h. elim (Contains-push_cases left node n (subst (λ (xs : List ℕ). Contains xs n) grew h)) as (λ _. reached n) [
          | inl k ↦ are.next n k
          | inr same ↦ subst reached same (is (are.able node spare))
        ];
        able = λ n t. by_bool (nat_eq n node) (is_set may n ≡ true)
            (λ s. let same = (Decides-eqb n node).0 s in let never : false ≡ true = sym (unset-here flags node low) ∙ ap (is_set (set flags node false)) (sym same) ∙ t in cc)
            (λ d. are.able n (sym (unset-other flags node n d) ∙ t));
      }

  -- one node less is left
  pub reached-less : (flags : List Bool) (left rest : List ℕ) (waiter : ℕ) → left ≡ rest ++ waiter ∷ [] → AreReached edges may first flags left → AreReached edges may first flags rest
  reached-less flags left rest waiter popped are = record {
    taken = are.taken;
    next = λ n h. are.next n (subst (λ (xs : List ℕ). Contains xs n) (sym popped) (Contains-append_left rest (waiter ∷ []) n h));
    able = are.able;
  }

  -- who provides for one that is reached is reached
  pub reached-providers : (flags : List Bool) (left rest : List ℕ) (waiter : ℕ) → left ≡ rest ++ waiter ∷ [] → AreReached edges may first flags left → (into : List Edge)
      → into ≡ filter (λ edge. edge.waiter == waiter) edges → All (λ edge. is_set may edge.provider ≡ true → reached edge.provider) into
  reached-providers flags left rest waiter popped are into some =
      let own : reached waiter = are.next waiter (subst (λ (xs : List ℕ). Contains xs waiter) (sym popped) (Contains-push rest waiter)) in
      let waits : Edge → Bool = λ edge. edge.waiter == waiter in
      subst (All (λ (edge : Edge). is_set may edge.provider ≡ true → reached edge.provider)) (sym some)
      (λ k d low m.
      let e = get_or (filter waits edges) k d in
      let here : e.waiter ≡ waiter = (Decides-eqb e.waiter waiter).0 (filter_passes waits edges k d low) in
      Providing e (All-filter waits (Contains edges) edges (All-contains_itself edges) k d low) m (subst reached (sym here) own))

  -- at first nothing is taken
  pub reached-starts : AreReached edges may first may []
  reached-starts = record {
    taken = λ n m f. absurd (let never : true ≡ false = sym m ∙ f in cc);
    next = λ n h. absurd (let low = h.1 in omega (arith, low));
    able = λ n t. t;
  }

  -- in the end exactly those are taken that are reached
  pub reached-ends : (flags spare : List Bool) (left : List ℕ) → ((n : ℕ) → is_set flags n ≡ is_taken may spare n)
      → ((n : ℕ) → is_set first n ≡ true → is_set spare n ≡ false) → IsClosing edges may spare [] → AreReached edges may first spare left
      → (n : ℕ) → (is_set flags n ≡ true) ↔ reached n
  reached-ends flags spare left flagged firsts closed are n = (λ t. taken_is (sym (flagged n) ∙ t), λ r. flag n r)
    where
      taken_is : is_taken may spare n ≡ true → reached n
      taken_is t =
          by_bool (is_set may n) (reached n)
          (λ m. by_bool (is_set spare n) (reached n)
          (λ s. absurd (let never : false ≡ true = rw (m, s) at t in cc))
          (λ s. are.taken n m s))
          (λ m. absurd (let never : false ≡ true = rw m at t in cc))

      both : (k : ℕ) → is_set may k ≡ true → is_set spare k ≡ false → is_set flags k ≡ true
      both k m s = flagged k ∙ (rw (m, s) refl)

      unspared : (k : ℕ) → is_set flags k ≡ true → (is_set may k ≡ true) × (is_set spare k ≡ false)
      unspared k t =
          let told : is_taken may spare k ≡ true = sym (flagged k) ∙ t in
          by_bool (is_set may k) ((is_set may k ≡ true) × (is_set spare k ≡ false))
          (λ m. by_bool (is_set spare k) ((is_set may k ≡ true) × (is_set spare k ≡ false))
          (λ s. absurd (let never : false ≡ true = rw (m, s) at told in cc))
          (λ s. (m, s)))
          (λ m. absurd (let never : false ≡ true = rw m at told in cc))

      flag : (k : ℕ) → reached k → is_set flags k ≡ true
      flag k (First n' m f) = both n' m (firsts n' f)
      flag k (Providing e among m behind) =
          let waiter = unspared e.waiter (flag e.waiter behind) in
          elim (closed.closing e among waiter.0 waiter.1) as (λ _. is_set flags e.provider ≡ true) [
            | inl p ↦ both e.provider m p
            | inr h ↦ absurd (let low = h.1 in omega (arith, low))
          ]

-- ---- who is taken in the end

pub taken-more : (may spare flags more : List Bool) (i : ℕ) (b : Bool) → length flags ≡ i → more ≡ flags ++ b ∷ [] → b ≡ is_taken may spare i
    → ((n : ℕ) → n < i → is_set flags n ≡ is_taken may spare n) → (n : ℕ) → n < i + 1 → is_set more n ≡ is_taken may spare n
taken-more may spare flags more i b long grew is so_far n low =
    ap (λ (l : List Bool). is_set l n) grew
    ∙ by_bool (nat_eq n i) (is_set (flags ++ b ∷ []) n ≡ is_taken may spare n)
    (λ t. let same = (Decides-eqb n i).0 t in
    ap (is_set (flags ++ b ∷ [])) (same ∙ sym long) ∙ last flags b ∙ is ∙ ap (is_taken may spare) (sym same))
    (λ f. let inside = below n i f low in before flags b n (omega (arith, inside, long)) ∙ so_far n inside)
  where
    before : (xs : List Bool) (x : Bool) (p : ℕ) → p < length xs → is_set (xs ++ x ∷ []) p ≡ is_set xs p
    before [] x p h = absurd (omega (arith, h))
    before (y ∷ xs) x zero h = refl
    before (y ∷ xs) x (suc p) h = before xs x p (omega (arith, h))

    last : (xs : List Bool) (x : Bool) → is_set (xs ++ x ∷ []) (length xs) ≡ x
    last [] x = refl
    last (y ∷ xs) x = last xs x

-- behind the last flag none is set
pub taken-all : (may spare flags : List Bool) → length flags ≡ length may → ((n : ℕ) → n < length may → is_set flags n ≡ is_taken may spare n)
    → (n : ℕ) → is_set flags n ≡ is_taken may spare n
taken-all may spare flags long inside n =
    by_bool (is_set may n) (is_set flags n ≡ is_taken may spare n)
    (λ m. inside n (set-low may n m))
    (λ m. by_bool (is_set flags n) (is_set flags n ≡ is_taken may spare n)
    (λ t. inside n (let low = set-low flags n t in omega (arith, low, long)))
    (λ f. f ∙ rw m refl))
