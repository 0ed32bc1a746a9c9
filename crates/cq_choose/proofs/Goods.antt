-- Which goods a stock knows: those that its offers have.
use Rattle.std.proofs.Common.{◌≡◌, ◌⊎◌, ℕ, ◌+◌, inl, inr, true, List, [], ◌∷◌, ◌++◌, refl, sym, subst}
use Rattle.std.specs.List.{list_any}
use Rattle.cq_choose.specs.Steps.Goods.{GoodContent, same_good}
use Rattle.cq_choose.specs.Steps.Same.{same_good-is, same_good-refl}
use Rattle.cq_choose.specs.Steps.Offers.{OfferRecord, goods_of}
use Rattle.cq_choose.specs.Steps.Stocks.{StockRecord, with_supplier, with_goods, with_offers, empty_stock, stocked}
use Rattle.cq_choose.proofs.Lists.{by_bool, In, In-left, In-right, In-append}

pub known-In : (g : GoodContent) (goods : List GoodContent) → list_any (same_good g) goods ≡ true → In g goods
known-In g [] h = cc
known-In g (x ∷ goods) h = by_bool (same_good g x) (In g (x ∷ goods)) (λ t. inl (same_good-is g x t)) (λ f. inr (known-In g goods (rw f at h)))

pub In-known : (g : GoodContent) (goods : List GoodContent) → In g goods → list_any (same_good g) goods ≡ true
In-known g [] h = absurd h
In-known g (x ∷ goods) (inl e) = let same : same_good g x ≡ true = subst (λ (y : GoodContent). same_good g y ≡ true) e (same_good-refl g) in rw same refl
In-known g (x ∷ goods) (inr h) = by_bool (same_good g x) (list_any (same_good g) (x ∷ goods) ≡ true) (λ t. rw t refl) (λ f. rw f (In-known g goods h))

-- ---- one good more

module _ (m : ℕ) (stock : StockRecord) (h : GoodContent) where
  abbrev goods : List GoodContent
  goods = stock.goods

  one-gives : (g : GoodContent) → In g (with_supplier m stock h).goods → In g stock.goods ⊎ (g ≡ h)
  one-gives g k =
      by_bool (list_any (same_good h) goods) (In g goods ⊎ (g ≡ h))
      (λ t. inl (rw t at k))
      (λ f. let more : In g (goods ++ h ∷ []) = rw f at k in
      elim (In-append g goods (h ∷ []) more) as (λ _. In g goods ⊎ (g ≡ h)) [ inl b ↦ inl b | inr b ↦ elim b as (λ _. In g goods ⊎ (g ≡ h)) [ inl e ↦ inr e | inr never ↦ absurd never ] ])

  one-keeps : (g : GoodContent) → In g goods → In g (with_supplier m stock h).goods
  one-keeps g k = by_bool (list_any (same_good h) goods) (In g (with_supplier m stock h).goods) (λ t. rw t k) (λ f. rw f (In-left g goods (h ∷ []) k))

  one-adds : In h (with_supplier m stock h).goods
  one-adds = by_bool (list_any (same_good h) goods) (In h (with_supplier m stock h).goods) (λ t. rw t (known-In h goods t)) (λ f. rw f (In-right h goods (h ∷ []) (inl refl)))

-- ---- many goods

goods-give : (m : ℕ) (goods : List GoodContent) (stock : StockRecord) (g : GoodContent) → In g (with_goods m stock goods).goods → In g stock.goods ⊎ In g goods
goods-give m [] stock g k = inl k
goods-give m (h ∷ goods) stock g k =
    elim (goods-give m goods (with_supplier m stock h) g k) as (λ _. In g stock.goods ⊎ In g (h ∷ goods)) [
      | inl j ↦ elim (one-gives m stock h g j) as (λ _. In g stock.goods ⊎ In g (h ∷ goods)) [ inl b ↦ inl b | inr e ↦ inr (inl e) ]
      | inr j ↦ inr (inr j)
    ]

goods-keep : (m : ℕ) (goods : List GoodContent) (stock : StockRecord) (g : GoodContent) → In g stock.goods → In g (with_goods m stock goods).goods
goods-keep m [] stock g k = k
goods-keep m (h ∷ goods) stock g k = goods-keep m goods (with_supplier m stock h) g (one-keeps m stock h g k)

goods-add : (m : ℕ) (goods : List GoodContent) (stock : StockRecord) (g : GoodContent) → In g goods → In g (with_goods m stock goods).goods
goods-add m [] stock g k = absurd k
goods-add m (h ∷ goods) stock g (inl e) = goods-keep m goods (with_supplier m stock h) g (subst (λ (x : GoodContent). In x (with_supplier m stock h).goods) (sym e) (one-adds m stock h))
goods-add m (h ∷ goods) stock g (inr k) = goods-add m goods (with_supplier m stock h) g k

-- ---- many offers

offers-give : (m : ℕ) (offers : List OfferRecord) (stock : StockRecord) (g : GoodContent) → In g (with_offers m stock offers).goods → In g stock.goods ⊎ ((o : OfferRecord) × In o offers × In g (goods_of o))
offers-give m [] stock g k = inl k
offers-give m (o ∷ offers) stock g k =
    elim (offers-give (m + 1) offers (with_goods m stock (goods_of o)) g k) as (λ _. In g stock.goods ⊎ ((p : OfferRecord) × In p (o ∷ offers) × In g (goods_of p))) [
      | inl j ↦ elim (goods-give m (goods_of o) stock g j) as (λ _. In g stock.goods ⊎ ((p : OfferRecord) × In p (o ∷ offers) × In g (goods_of p))) [ inl b ↦ inl b | inr own ↦ inr (o, inl refl, own) ]
      | inr j ↦ inr (j.0, inr j.1, j.2)
    ]

offers-keep : (m : ℕ) (offers : List OfferRecord) (stock : StockRecord) (g : GoodContent) → In g stock.goods → In g (with_offers m stock offers).goods
offers-keep m [] stock g k = k
offers-keep m (o ∷ offers) stock g k = offers-keep (m + 1) offers (with_goods m stock (goods_of o)) g (goods-keep m (goods_of o) stock g k)

offers-add : (m : ℕ) (offers : List OfferRecord) (stock : StockRecord) (g : GoodContent) (o : OfferRecord) → In o offers → In g (goods_of o) → In g (with_offers m stock offers).goods
offers-add m [] stock g o h k = absurd h
offers-add m (x ∷ offers) stock g o (inl e) k =
    offers-keep (m + 1) offers (with_goods m stock (goods_of x)) g (goods-add m (goods_of x) stock g (subst (λ (y : OfferRecord). In g (goods_of y)) e k))
offers-add m (x ∷ offers) stock g o (inr h) k = offers-add (m + 1) offers (with_goods m stock (goods_of x)) g o h k

pub stocked-gives : (offers : List OfferRecord) (g : GoodContent) → In g (stocked offers).goods → (o : OfferRecord) × In o offers × In g (goods_of o)
stocked-gives offers g k = elim (offers-give 0 offers empty_stock g k) as (λ _. (o : OfferRecord) × In o offers × In g (goods_of o)) [ inl never ↦ absurd never | inr j ↦ j ]

pub stocked-has : (offers : List OfferRecord) (g : GoodContent) (o : OfferRecord) → In o offers → In g (goods_of o) → In g (stocked offers).goods
stocked-has offers g o h k = offers-add 0 offers empty_stock g o h k
