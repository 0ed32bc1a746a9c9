-- Who offers a good, by its number in a stock.
use Rattle.std.proofs.Common.{◌≡◌, ◌⊎◌, ℕ, zero, suc, ◌+◌, ◌<◌, inl, inr, Bool, true, false, List, [], ◌∷◌, ◌++◌, length, get_or, refl, sym, ap, subst, ◌∙◌, arith, Some, length-append, get_or-set_same, get_or-set_other}
use Rattle.std.specs.List.{list_any, position_or_len, slice_get}
use Rattle.std.proofs.lemmas.List.{length-set, get_or_past}
use Rattle.cq_choose.specs.Steps.Goods.{GoodContent, same_good}
use Rattle.cq_choose.specs.Steps.Same.{same_good-is, same_good-refl}
use Rattle.cq_choose.specs.Steps.Offers.{OfferRecord, goods_of}
use Rattle.cq_choose.specs.Steps.Stocks.{StockRecord, number_in, noted, with_supplier, with_goods, with_offers, empty_stock, stocked}
use Rattle.cq_choose.proofs.Lists.{by_bool, not_true, In, In-left, In-right, In-append}

-- ---- places of goods

abbrev known : GoodContent → List GoodContent → Bool
known g goods = list_any (same_good g) goods

abbrev place : GoodContent → List GoodContent → ℕ
place g goods = position_or_len (same_good g) goods

place-known : (g : GoodContent) (goods : List GoodContent) → known g goods ≡ true → place g goods < length goods
place-known g [] h = cc
place-known g (k ∷ goods) h =
    by_bool (same_good g k) (place g (k ∷ goods) < length (k ∷ goods))
    (λ t. rw t (omega arith))
    (λ f. let more = place-known g goods (rw f at h) in rw f (omega (arith, more)))

place-new : (g : GoodContent) (goods : List GoodContent) → known g goods ≡ false → place g goods ≡ length goods
place-new g [] h = refl
place-new g (k ∷ goods) h =
    by_bool (same_good g k) (place g (k ∷ goods) ≡ length (k ∷ goods))
    (λ t. let never : true ≡ false = rw t at h in cc)
    (λ f. let more = place-new g goods (rw f at h) in rw f (omega (arith, more)))

place-behind-known : (h g : GoodContent) (goods : List GoodContent) → known h goods ≡ true → place h (goods ++ g ∷ []) ≡ place h goods
place-behind-known h g [] k = cc
place-behind-known h g (x ∷ goods) k =
    by_bool (same_good h x) (place h ((x ∷ goods) ++ g ∷ []) ≡ place h (x ∷ goods))
    (λ t. rw t refl)
    (λ f. let more = place-behind-known h g goods (rw f at k) in rw f (omega (arith, more)))

place-behind-own : (g : GoodContent) (goods : List GoodContent) → known g goods ≡ false → place g (goods ++ g ∷ []) ≡ length goods
place-behind-own g [] k = rw (same_good-refl g) refl
place-behind-own g (x ∷ goods) k =
    by_bool (same_good g x) (place g ((x ∷ goods) ++ g ∷ []) ≡ length (x ∷ goods))
    (λ t. let never : true ≡ false = rw t at k in cc)
    (λ f. let more = place-behind-own g goods (rw f at k) in rw f (omega (arith, more)))

place-behind-other : (h g : GoodContent) (goods : List GoodContent) → known h goods ≡ false → same_good h g ≡ false → place h (goods ++ g ∷ []) ≡ length goods + 1
place-behind-other h g [] k n = rw n refl
place-behind-other h g (x ∷ goods) k n =
    by_bool (same_good h x) (place h ((x ∷ goods) ++ g ∷ []) ≡ length (x ∷ goods) + 1)
    (λ t. let never : true ≡ false = rw t at k in cc)
    (λ f. let more = place-behind-other h g goods (rw f at k) n in rw f (omega (arith, more)))

-- two goods have two places
places-apart : (g h : GoodContent) (goods : List GoodContent) → known g goods ≡ true → (g ≡ h → ⊥) → place g goods ≡ place h goods → ⊥
places-apart g h [] k n e = cc
places-apart g h (x ∷ goods) k n e =
    by_bool (same_good g x) ⊥
    (λ t. by_bool (same_good h x) ⊥
    (λ u. n (same_good-is g x t ∙ sym (same_good-is h x u)))
    (λ f. let e' = rw (t, f) at e in absurd (omega (arith, e'))))
    (λ f. by_bool (same_good h x) ⊥
    (λ u. let e' = rw (f, u) at e in absurd (omega (arith, e')))
    (λ v. let e' = rw (f, v) at e in places-apart g h goods (rw f at k) n (omega (arith, e'))))

-- ---- one member more

-- each good has a list
pub record IsEven (stock : StockRecord) : Type 0 where
  pub even : length stock.suppliers ≡ length stock.goods

-- the members that offer the good
unfoldable pub holders : StockRecord → GoodContent → List ℕ
holders stock g = get_or stock.suppliers (number_in stock g) []

nobody : (n i : ℕ) → In i (get_or [] n []) → ⊥
nobody n i h = h

-- one empty list more changes none
pushed-empty : (lists : List (List ℕ)) (n : ℕ) → get_or (lists ++ [] ∷ []) n [] ≡ get_or lists n []
pushed-empty [] zero = refl
pushed-empty [] (suc n) = refl
pushed-empty (l ∷ lists) zero = refl
pushed-empty (l ∷ lists) (suc n) = pushed-empty lists n

module _ (m : ℕ) (stock : StockRecord) (g : GoodContent) (even : IsEven stock) where
  abbrev goods : List GoodContent
  goods = stock.goods

  abbrev lists : List (List ℕ)
  lists = stock.suppliers

  supplied-known : known g goods ≡ true → with_supplier m stock g ≡ record { goods = goods; suppliers = noted lists (place g goods) m }
  supplied-known k = rw k refl

  supplied-new : known g goods ≡ false → with_supplier m stock g ≡ record { goods = goods ++ g ∷ []; suppliers = noted (lists ++ [] ∷ []) (place g goods) m }
  supplied-new k = rw k refl

  pub even-supplied : IsEven (with_supplier m stock g)
  even-supplied =
      by_bool (known g goods) (IsEven (with_supplier m stock g))
      (λ k. subst IsEven (sym (supplied-known k)) (record { even = length-set lists (place g goods) (get_or lists (place g goods) [] ++ m ∷ []) ∙ even.even }))
      (λ k. subst IsEven (sym (supplied-new k)) (record {
        even = length-set (lists ++ [] ∷ []) (place g goods) (get_or (lists ++ [] ∷ []) (place g goods) [] ++ m ∷ [])
            ∙ (let a = length-append lists ([] ∷ []) in let b = length-append goods (g ∷ []) in let e = even.even in let same : length (lists ++ [] ∷ []) ≡ length (goods ++ g ∷ []) = omega (arith, a, b, e) in same);
      }))

  pub holders-own : holders (with_supplier m stock g) g ≡ holders stock g ++ m ∷ []
  unfolding holders
  holders-own =
      by_bool (known g goods) (holders (with_supplier m stock g) g ≡ holders stock g ++ m ∷ [])
      (λ k. let within = place-known g goods k in let e = even.even in
      ap (λ (s : StockRecord). holders s g) (supplied-known k) ∙ get_or-set_same lists (place g goods) (get_or lists (place g goods) [] ++ m ∷ []) [] (omega (arith, within, e)))
      (λ k. let last = place-new g goods k in let e = even.even in let a = length-append lists ([] ∷ []) in
      let at : place g (goods ++ g ∷ []) ≡ place g goods = place-behind-own g goods k ∙ sym last in
      let past = get_or_past lists (place g goods) [] (omega (arith, last, e)) in
      let here = pushed-empty lists (place g goods) in
      ap (λ (s : StockRecord). holders s g) (supplied-new k)
      ∙ ap (λ (n : ℕ). get_or (noted (lists ++ [] ∷ []) (place g goods) m) n []) at
      ∙ get_or-set_same (lists ++ [] ∷ []) (place g goods) (get_or (lists ++ [] ∷ []) (place g goods) [] ++ m ∷ []) [] (omega (arith, last, e, a))
      ∙ ap (λ (l : List ℕ). l ++ m ∷ []) here)

  other-known : (h : GoodContent) → (h ≡ g → ⊥) → known g goods ≡ true → get_or (noted lists (place g goods) m) (place h goods) [] ≡ get_or lists (place h goods) []
  other-known h n k = get_or-set_other lists (place g goods) (place h goods) (get_or lists (place g goods) [] ++ m ∷ []) [] (λ e. places-apart g h goods k (λ s. n (sym s)) (sym e))

  other-new : (h : GoodContent) → (h ≡ g → ⊥) → known g goods ≡ false → get_or (noted (lists ++ [] ∷ []) (place g goods) m) (place h (goods ++ g ∷ [])) [] ≡ get_or lists (place h goods) []
  other-new h n k =
      let last = place-new g goods k in let e = even.even in let a = length-append lists ([] ∷ []) in
      let change = get_or (lists ++ [] ∷ []) (place g goods) [] ++ m ∷ [] in
      by_bool (known h goods) (get_or (noted (lists ++ [] ∷ []) (place g goods) m) (place h (goods ++ g ∷ [])) [] ≡ get_or lists (place h goods) [])
      (λ j. let within = place-known h goods j in
      ap (λ (p : ℕ). get_or (noted (lists ++ [] ∷ []) (place g goods) m) p []) (place-behind-known h g goods j)
      ∙ get_or-set_other (lists ++ [] ∷ []) (place g goods) (place h goods) change [] (λ s. absurd (omega (arith, within, last, s)))
      ∙ pushed-empty lists (place h goods))
      (λ j. let own = place-new h goods j in
      let differ : same_good h g ≡ false = not_true (same_good h g) (λ t. n (same_good-is h g t)) in
      let at = place-behind-other h g goods j differ in
      let b = length-set (lists ++ [] ∷ []) (place g goods) change in
      get_or_past (noted (lists ++ [] ∷ []) (place g goods) m) (place h (goods ++ g ∷ [])) [] (omega (arith, at, b, a, e)) ∙ sym (get_or_past lists (place h goods) [] (omega (arith, own, e))))

  pub holders-other : (h : GoodContent) → (h ≡ g → ⊥) → holders (with_supplier m stock g) h ≡ holders stock h
  unfolding holders
  holders-other h n =
      by_bool (known g goods) (holders (with_supplier m stock g) h ≡ holders stock h)
      (λ k. ap (λ (s : StockRecord). holders s h) (supplied-known k) ∙ other-known h n k)
      (λ k. ap (λ (s : StockRecord). holders s h) (supplied-new k) ∙ other-new h n k)

-- ---- many goods

-- who offers the good after the member has offered some: who did before, and the member, where the good is one of them
pub holders-goods_gives : (m : ℕ) (goods : List GoodContent) (stock : StockRecord) (h : GoodContent) (i : ℕ) → IsEven stock → In i (holders (with_goods m stock goods) h)
    → In i (holders stock h) ⊎ ((i ≡ m) × In h goods)
holders-goods_gives m [] stock h i even k = inl k
holders-goods_gives m (g ∷ goods) stock h i even k =
    elim (holders-goods_gives m goods (with_supplier m stock g) h i (even-supplied m stock g even) k) [
      | inl j ↦ by_bool (same_good h g) (In i (holders stock h) ⊎ ((i ≡ m) × In h (g ∷ goods)))
          (λ t. let is = same_good-is h g t in
          let own : In i (holders stock h ++ m ∷ []) = subst (λ (x : GoodContent). In i (holders stock x ++ m ∷ [])) (sym is) (subst (In i) (holders-own m stock g even) (subst (λ (x : GoodContent). In i (holders (with_supplier m stock g) x)) is j)) in
          elim (In-append i (holders stock h) (m ∷ []) own) [ inl b ↦ inl b | inr b ↦ elim b [ inl e ↦ inr (e, inl is) | inr never ↦ absurd never ] ])
          (λ f. inl (subst (In i) (holders-other m stock g even h (λ e. let t : same_good h g ≡ true = subst (λ (x : GoodContent). same_good h x ≡ true) e (same_good-refl h) in cc)) j))
      | inr j ↦ inr (j.0, inr j.1)
    ]

pub even-goods : (m : ℕ) (goods : List GoodContent) (stock : StockRecord) → IsEven stock → IsEven (with_goods m stock goods)
even-goods m [] stock even = even
even-goods m (g ∷ goods) stock even = even-goods m goods (with_supplier m stock g) (even-supplied m stock g even)

-- one member more takes nobody away
stays : (m : ℕ) (stock : StockRecord) (g : GoodContent) (h : GoodContent) (i : ℕ) → IsEven stock → In i (holders stock h) → In i (holders (with_supplier m stock g) h)
stays m stock g h i even k =
    by_bool (same_good h g) (In i (holders (with_supplier m stock g) h))
    (λ t. let is = same_good-is h g t in
    subst (λ (x : GoodContent). In i (holders (with_supplier m stock g) x)) (sym is)
    (subst (In i) (sym (holders-own m stock g even)) (In-left i (holders stock g) (m ∷ []) (subst (λ (x : GoodContent). In i (holders stock x)) is k))))
    (λ f. subst (In i) (sym (holders-other m stock g even h (λ e. let t : same_good h g ≡ true = subst (λ (x : GoodContent). same_good h x ≡ true) e (same_good-refl h) in cc))) k)

pub holders-goods_keep : (m : ℕ) (goods : List GoodContent) (stock : StockRecord) (h : GoodContent) (i : ℕ) → IsEven stock → In i (holders stock h) → In i (holders (with_goods m stock goods) h)
holders-goods_keep m [] stock h i even k = k
holders-goods_keep m (g ∷ goods) stock h i even k = holders-goods_keep m goods (with_supplier m stock g) h i (even-supplied m stock g even) (stays m stock g h i even k)

pub holders-goods_add : (m : ℕ) (goods : List GoodContent) (stock : StockRecord) (h : GoodContent) → IsEven stock → In h goods → In m (holders (with_goods m stock goods) h)
holders-goods_add m [] stock h even k = absurd k
holders-goods_add m (g ∷ goods) stock h even (inl e) =
    holders-goods_keep m goods (with_supplier m stock g) h m (even-supplied m stock g even)
    (subst (λ (x : GoodContent). In m (holders (with_supplier m stock g) x)) (sym e) (subst (In m) (sym (holders-own m stock g even)) (In-right m (holders stock g) (m ∷ []) (inl refl))))
holders-goods_add m (g ∷ goods) stock h even (inr k) = holders-goods_add m goods (with_supplier m stock g) h (even-supplied m stock g even) k

-- ---- many offers

offers-give : (m : ℕ) (offers : List OfferRecord) (stock : StockRecord) (h : GoodContent) (i : ℕ) → IsEven stock → In i (holders (with_offers m stock offers) h)
    → In i (holders stock h) ⊎ ((k : ℕ) × (o : OfferRecord) × (i ≡ m + k) × (slice_get offers k ≡ Some o) × In h (goods_of o))
offers-give m [] stock h i even held = inl held
offers-give m (o ∷ offers) stock h i even held =
    elim (offers-give (m + 1) offers (with_goods m stock (goods_of o)) h i (even-goods m (goods_of o) stock even) held) [
      | inl j ↦ elim (holders-goods_gives m (goods_of o) stock h i even j) [
        | inl before ↦ inl before
        | inr own ↦ inr (0, o, own.0 ∙ (let at : m ≡ m + 0 = omega arith in at), refl, own.1)
      ]
      | inr j ↦ inr (suc j.0, j.1, j.2 ∙ (let at : m + 1 + j.0 ≡ m + suc j.0 = omega arith in at), j.3, j.4)
    ]

offers-keep : (m : ℕ) (offers : List OfferRecord) (stock : StockRecord) (h : GoodContent) (i : ℕ) → IsEven stock → In i (holders stock h) → In i (holders (with_offers m stock offers) h)
offers-keep m [] stock h i even held = held
offers-keep m (o ∷ offers) stock h i even held =
    offers-keep (m + 1) offers (with_goods m stock (goods_of o)) h i (even-goods m (goods_of o) stock even) (holders-goods_keep m (goods_of o) stock h i even held)

offers-add : (m : ℕ) (offers : List OfferRecord) (stock : StockRecord) (h : GoodContent) (k : ℕ) (o : OfferRecord) → IsEven stock → slice_get offers k ≡ Some o → In h (goods_of o)
    → In (m + k) (holders (with_offers m stock offers) h)
offers-add m [] stock h k o even here has = cc
offers-add m (x ∷ offers) stock h zero o even here has =
    let same : x ≡ o = cc in let at : m ≡ m + 0 = omega arith in
    offers-keep (m + 1) offers (with_goods m stock (goods_of x)) h (m + 0) (even-goods m (goods_of x) stock even)
    (subst (λ (n : ℕ). In n (holders (with_goods m stock (goods_of x)) h)) at (holders-goods_add m (goods_of x) stock h even (subst (λ (y : OfferRecord). In h (goods_of y)) (sym same) has)))
offers-add m (x ∷ offers) stock h (suc k) o even here has =
    let at : m + 1 + k ≡ m + suc k = omega arith in
    subst (λ (n : ℕ). In n (holders (with_offers (m + 1) (with_goods m stock (goods_of x)) offers) h)) at
    (offers-add (m + 1) offers (with_goods m stock (goods_of x)) h k o (even-goods m (goods_of x) stock even) here has)

-- who offers a good: the offers that have it
pub holders-stocked_gives : (offers : List OfferRecord) (h : GoodContent) (i : ℕ) → In i (holders (stocked offers) h) → (o : OfferRecord) × (slice_get offers i ≡ Some o) × In h (goods_of o)
unfolding holders
holders-stocked_gives offers h i held =
    elim (offers-give 0 offers empty_stock h i (record { even = refl }) held) [
      | inl never ↦ absurd (nobody (number_in empty_stock h) i never)
      | inr j ↦ let at : j.0 ≡ i = omega (arith, j.2) in (j.1, ap (slice_get offers) (sym at) ∙ j.3, j.4)
    ]

pub holders-stocked : (offers : List OfferRecord) (h : GoodContent) (i : ℕ) (o : OfferRecord) → slice_get offers i ≡ Some o → In h (goods_of o) → In i (holders (stocked offers) h)
holders-stocked offers h i o here has =
    let at : 0 + i ≡ i = omega arith in subst (λ (n : ℕ). In n (holders (stocked offers) h)) at (offers-add 0 offers empty_stock h i o (record { even = refl }) here has)
