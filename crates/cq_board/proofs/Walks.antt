-- Loops over lists, one element after another.
use Rattle.std.proofs.Common.{◌≡◌, ℕ, zero, suc, ◌+◌, ◌<◌, ◌≤◌, true, false, List, [], ◌∷◌, ◌++◌, length, map, take, drop, get_or, refl, sym, ap, subst, ◌∙◌, arith, inl, inr}
use Rattle.std.specs.Str.{bytes_eq}
use Rattle.std.specs.List.{All, Any, AllByRecursion, IsDistinct, list_any}
use Rattle.std.proofs.lemmas.List.{take_more, take_all, drop_all}
use Rattle.std.proofs.lemmas.Map.Keys.{IsDistinct-head, IsDistinct-tail, IsDistinct-cons}
use Rattle.cq_board.specs.Choice.{ChoiceRecord, chosen_name}
use Rattle.cq_board.proofs.Members.{by_bool, In-append}
use Rattle.cq_board.proofs.Among.{All-In, In-All, In-Any}
use Rattle.cq_board.proofs.Places.{drop-at}
use Rattle.cq_board.proofs.Ends.{map_more}

module _ {X : Type 0} where
  pub taken : (xs : List X) (i : ℕ) (x : X) → i < length xs → x ≡ get_or xs i x → take (i + 1) xs ≡ take i xs ++ (x ∷ [])
  taken xs i x h e = take_more xs i x h ∙ ap (λ (z : X). take i xs ++ (z ∷ [])) (sym e)

  push_All : (P : X → Type 0) (xs : List X) (x : X) → All P xs → P x → All P (xs ++ (x ∷ []))
  push_All P xs x all p =
      All-In P (xs ++ (x ∷ []))
      (λ y m. elim (In-append y xs (x ∷ []) m) [
        | inl k ↦ In-All P xs all y k
        | inr k ↦ elim k [ inl e ↦ subst P (sym e) p | inr never ↦ absurd never ]
      ])

  pub All_more : (P : X → Type 0) (xs : List X) (i : ℕ) (x : X) → i < length xs → x ≡ get_or xs i x → All P (take i xs) → P x → All P (take (i + 1) xs)
  All_more P xs i x h e all p = subst (All P) (sym (taken xs i x h e)) (push_All P (take i xs) x all p)

  pub All_end : (P : X → Type 0) (xs ys : List X) (i : ℕ) → length xs ≤ i → xs ≡ ys → All P (take i xs) → All P ys
  All_end P xs ys i h e all = subst (All P) (take_all i xs h ∙ e) all

  pub All_at : (P : X → Type 0) (xs ys : List X) (i : ℕ) (x : X) → i < length xs → x ≡ get_or xs i x → xs ≡ ys → All P ys → P x
  All_at P xs ys i x h e same all = subst P (sym e) (subst (All P) (sym same) all i x h)

  pub All_none : (P : X → Type 0) → All P []
  All_none P = λ k d h. absurd (let low : k < 0 = h in omega arith)

  pub Any_at : (P : X → Type 0) (xs ys : List X) (i : ℕ) (x : X) → i < length xs → x ≡ get_or xs i x → xs ≡ ys → P x → Any P ys
  Any_at P xs ys i x h e same p = subst (Any P) same (i, x, h, sym e, p)

  -- where no element before the end is one
  pub Any_none : (P : X → Type 0) (xs ys : List X) (i : ℕ) → length xs ≤ i → xs ≡ ys → All (λ (x : X). P x → ⊥) (take i xs) → Any P ys → ⊥
  Any_none P xs ys i h e none any =
      let found = In-Any P ys any in
      In-All (λ (x : X). P x → ⊥) ys (All_end (λ (x : X). P x → ⊥) xs ys i h e none) found.0 found.1 found.2

  push_each : (P : X → Type 0) (xs : List X) (x : X) → AllByRecursion P xs → P x → AllByRecursion P (xs ++ (x ∷ []))
  push_each P [] x all p = (p, tt)
  push_each P (y ∷ xs) x all p = (all.0, push_each P xs x all.1 p)

  pub each_more : (P : X → Type 0) (xs : List X) (i : ℕ) (x : X) → i < length xs → x ≡ get_or xs i x → AllByRecursion P (take i xs) → P x → AllByRecursion P (take (i + 1) xs)
  each_more P xs i x h e all p = subst (AllByRecursion P) (sym (taken xs i x h e)) (push_each P (take i xs) x all p)

module _ {X Y Z : Type 0} (f : X → Z) (g : Y → Z) where
  -- equal maps are equal at each place
  pub same_at : (xs : List X) (ys : List Y) (i : ℕ) (x : X) (y : Y) → i < length xs → i < length ys → x ≡ get_or xs i x → y ≡ get_or ys i y → map f xs ≡ map g ys → f x ≡ g y
  same_at [] ys i x y a b p q e = absurd (let a' : i < 0 = a in omega arith)
  same_at (w ∷ xs) [] i x y a b p q e = absurd (let b' : i < 0 = b in omega arith)
  same_at (w ∷ xs) (z ∷ ys) zero x y a b p q e = let first : f w ≡ g z = cc in ap f p ∙ first ∙ ap g (sym q)
  same_at (w ∷ xs) (z ∷ ys) (suc i) x y a b p q e =
      let more : map f xs ≡ map g ys = cc in
      same_at xs ys i x y (let a' : suc i < suc (length xs) = a in omega arith) (let b' : suc i < suc (length ys) = b in omega arith) p q more

  pub same_more : (xs : List X) (ys : List Y) (i : ℕ) (x : X) (y : Y) → i < length xs → i < length ys → x ≡ get_or xs i x → y ≡ get_or ys i y
      → map f (take i xs) ≡ map g (take i ys) → f x ≡ g y → map f (take (i + 1) xs) ≡ map g (take (i + 1) ys)
  same_more xs ys i x y a b p q so_far same = ap (map f) (taken xs i x a p) ∙ map_more f g (take i xs) x ys i y b so_far (same ∙ ap g q)

  pub same_end : (xs : List X) (ys : List Y) (i : ℕ) → length xs ≤ i → length ys ≤ i → map f (take i xs) ≡ map g (take i ys) → map f xs ≡ map g ys
  same_end xs ys i a b so_far = ap (map f) (sym (take_all i xs a)) ∙ so_far ∙ ap (map g) (take_all i ys b)

-- ---- names that differ

named_none : (name : List ℕ) (choices : List ChoiceRecord) → AllByRecursion (λ y. bytes_eq name y ≡ false) (map chosen_name choices) → list_any (λ c. bytes_eq name c.name) choices ≡ false
named_none name [] h = refl
named_none name (c ∷ choices) h = rw h.0 (named_none name choices h.1)

none_named : (name : List ℕ) (choices : List ChoiceRecord) → list_any (λ c. bytes_eq name c.name) choices ≡ false → AllByRecursion (λ y. bytes_eq name y ≡ false) (map chosen_name choices)
none_named name [] h = tt
none_named name (c ∷ choices) h =
    by_bool (bytes_eq name c.name) (AllByRecursion (λ y. bytes_eq name y ≡ false) (map chosen_name (c ∷ choices)))
    (λ k. let never : true ≡ false = rw k at h in cc)
    (λ k. (k, none_named name choices (rw k at h)))

abbrev pub Differ : List ChoiceRecord → Type 0
Differ choices = IsDistinct bytes_eq (map chosen_name choices)

module _ (choices : List ChoiceRecord) (i : ℕ) (c : ChoiceRecord) (within : i < length choices) (is : c ≡ get_or choices i c) where
  ahead : drop i choices ≡ c ∷ drop (i + 1) choices
  ahead = drop-at choices i c within is

  pub differ_not : list_any (λ d. bytes_eq c.name d.name) (drop (i + 1) choices) ≡ true → Differ (drop i choices) → false ≡ true
  differ_not t d =
      let here : Differ (c ∷ drop (i + 1) choices) = subst Differ ahead d in
      sym (named_none c.name (drop (i + 1) choices) (IsDistinct-head bytes_eq c.name (map chosen_name (drop (i + 1) choices)) here)) ∙ t

  pub differ_more : Differ (drop i choices) → Differ (drop (i + 1) choices)
  differ_more d = IsDistinct-tail bytes_eq c.name (map chosen_name (drop (i + 1) choices)) (subst Differ ahead d)

  pub differ_less : list_any (λ d. bytes_eq c.name d.name) (drop (i + 1) choices) ≡ false → Differ (drop (i + 1) choices) → Differ (drop i choices)
  differ_less f d = subst Differ (sym ahead) (IsDistinct-cons bytes_eq c.name (map chosen_name (drop (i + 1) choices)) (none_named c.name (drop (i + 1) choices) f) d)

differ_none : Differ []
unfolding IsDistinct
differ_none = tt

pub differ_end : (choices : List ChoiceRecord) (i : ℕ) → length choices ≤ i → Differ (drop i choices)
differ_end choices i h = subst Differ (sym (drop_all i choices h)) differ_none
