-- Lists that are gone through to their end: what is made of them, one element after another.
use Rattle.std.proofs.Common.{◌≡◌, ℕ, ◌+◌, ◌<◌, ◌≤◌, List, [], ◌∷◌, ◌++◌, length, map, drop, take, get_or, fold, refl, sym, ap, ◌∙◌, Some, append-nil, append_assoc}
use Rattle.std.specs.Prelude.{Bool, option_map}
use Rattle.std.specs.List.{slice_get}
use Rattle.std.proofs.lemmas.Grind.{fold-append}
use Rattle.std.proofs.lemmas.List.{drop_all, map-append, take_more}
use Rattle.std.proofs.lemmas.Option.{slice_get-map, slice_get_read}
use Rattle.cq_atom.specs.Value.{ValueContent}
use Rattle.cq_atom.specs.Atom.{TermContent}
use Rattle.cq_atom.specs.Query.{QueryRecord}
use Rattle.cq_board.specs.Pool.{PoolRecord}
use Rattle.cq_board.specs.Choice.{ChoiceRecord}
use Rattle.cq_choose.specs.declared.offers.Offer.{Offer}
use Rattle.cq_choose.specs.Steps.Goods.{GoodContent, term_input, terms_input}
use Rattle.cq_choose.specs.Steps.Offers.{OfferRecord, offer_of, offers_by, offers_at, offers_from, choice_of, choices_of}
use Rattle.cq_choose.specs.Steps.Stocks.{StockRecord, with_supplier, with_goods}
use Rattle.cq_choose.proofs.Terms.{ahead}

-- ---- offers

module _ {X : Type 0} (pool : PoolRecord) (spare : List Bool) (read : X → List ℕ) (xs : List X) (i : ℕ) (all : List OfferRecord) where
  pub offers-on : (now before : List OfferRecord) (x : X) → i < length xs → x ≡ get_or xs i x → now ≡ before ++ offers_at pool spare i (read x)
      → before ++ offers_from pool spare i (map read (drop i xs)) ≡ all → now ++ offers_from pool spare (i + 1) (map read (drop (i + 1) xs)) ≡ all
  offers-on now before x low is more so_far =
      let rest = offers_from pool spare (i + 1) (map read (drop (i + 1) xs)) in
      ap (λ (l : List OfferRecord). l ++ rest) more
      ∙ append_assoc before (offers_at pool spare i (read x)) rest
      ∙ ap (λ (l : List X). before ++ offers_from pool spare i (map read l)) (sym (ahead xs i x low is))
      ∙ so_far

  pub offers-end : (now : List OfferRecord) → length xs ≤ i → now ++ offers_from pool spare i (map read (drop i xs)) ≡ all → now ≡ all
  offers-end now past so_far = sym (append-nil now) ∙ ap (λ (l : List X). now ++ offers_from pool spare i (map read l)) (sym (drop_all i xs past)) ∙ so_far

module _ {X A : Type 0} (read : X → List ValueContent) (place : ℕ) (name : List ℕ) (query : QueryRecord) (all : List OfferRecord) (xs : List X) where
  pub grounded-on : (now before : List (Offer A)) (o : Offer A) (rest : List X) (x : X) → xs ≡ x ∷ rest → now ≡ before ++ o ∷ [] → offer_of o ≡ record { name = name; place = place; query = query; values = read x }
      → map offer_of before ++ offers_by place name (Some query) (Some (map read xs)) ≡ all → map offer_of now ++ offers_by place name (Some query) (Some (map read rest)) ≡ all
  grounded-on now before o rest x at more is so_far =
      let behind = offers_by place name (Some query) (Some (map read rest)) in
      ap (λ (l : List (Offer A)). map offer_of l ++ behind) more
      ∙ ap (λ (l : List OfferRecord). l ++ behind) (map-append offer_of before (o ∷ []))
      ∙ append_assoc (map offer_of before) (offer_of o ∷ []) behind
      ∙ ap (λ (p : OfferRecord). map offer_of before ++ p ∷ behind) is
      ∙ ap (λ (l : List X). map offer_of before ++ offers_by place name (Some query) (Some (map read l))) (sym at)
      ∙ so_far

module _ {X : Type 0} (read : X → List ValueContent) (place : ℕ) (name : List ℕ) (query : QueryRecord) (all : List OfferRecord) (xs : List X) where
  pub grounded-end : (now : List OfferRecord) → xs ≡ [] → now ++ offers_by place name (Some query) (Some (map read xs)) ≡ all → now ≡ all
  grounded-end now none so_far = sym (append-nil now) ∙ ap (λ (l : List X). now ++ offers_by place name (Some query) (Some (map read l))) (sym none) ∙ so_far

-- ---- what is hashed

module _ {S X : Type 0} (write : S → List ℕ → S) (f : X → TermContent) (xs : List X) (i : ℕ) (all : S) where
  pub hashed-on : (new old : S) (t : TermContent) (x : X) → i < length xs → x ≡ get_or xs i x → t ≡ f x → new ≡ fold write old (term_input t)
      → fold write old (terms_input (map f (drop i xs))) ≡ all → fold write new (terms_input (map f (drop (i + 1) xs))) ≡ all
  hashed-on new old t x low is same more so_far =
      let rest = terms_input (map f (drop (i + 1) xs)) in
      ap (λ (s : S). fold write s rest) more
      ∙ sym (fold-append write old (term_input t) rest)
      ∙ ap (λ (u : TermContent). fold write old (term_input u ++ rest)) same
      ∙ ap (λ (l : List X). fold write old (terms_input (map f l))) (sym (ahead xs i x low is))
      ∙ so_far

  pub hashed-end : (now : S) → length xs ≤ i → fold write now (terms_input (map f (drop i xs))) ≡ all → now ≡ all
  hashed-end now past so_far = ap (λ (l : List X). fold write now (terms_input (map f l))) (sym (drop_all i xs past)) ∙ so_far

-- ---- goods

module _ {X : Type 0} (m : ℕ) (f : X → GoodContent) (xs : List X) (i : ℕ) (all : StockRecord) where
  pub supplied-on : (new old : StockRecord) (g : GoodContent) (x : X) → i < length xs → x ≡ get_or xs i x → g ≡ f x → new ≡ with_supplier m old g
      → with_goods m old (map f (drop i xs)) ≡ all → with_goods m new (map f (drop (i + 1) xs)) ≡ all
  supplied-on new old g x low is same more so_far =
      let rest = map f (drop (i + 1) xs) in
      ap (λ (s : StockRecord). with_goods m s rest) more
      ∙ ap (λ (h : GoodContent). with_goods m old (h ∷ rest)) same
      ∙ ap (λ (l : List X). with_goods m old (map f l)) (sym (ahead xs i x low is))
      ∙ so_far

pub supplied-end : {X : Type 0} (m : ℕ) (f : X → GoodContent) (xs ys : List X) (i : ℕ) (now start : StockRecord) → length xs ≤ i → with_goods m now (map f (drop i xs)) ≡ with_goods m start (map f xs) → xs ≡ ys
    → now ≡ with_goods m start (map f ys)
supplied-end {X} m f xs ys i now start past so_far same =
    ap (λ (l : List X). with_goods m now (map f l)) (sym (drop_all i xs past)) ∙ so_far ∙ ap (λ (l : List X). with_goods m start (map f l)) same

-- ---- numbers

pub numbers-more : {X Y Z : Type 0} (h : Y → Z) (f : X → Y) (zs : List Z) (z : Z) (xs : List X) (i : ℕ) (x : X) → i < length xs → x ≡ get_or xs i x → zs ≡ map h (map f (take i xs)) → z ≡ h (f x) → zs ++ z ∷ [] ≡ map h (map f (take (i + 1) xs))
numbers-more {X} {Y} {Z} h f zs z xs i x low is so_far same =
    ap (λ (l : List Z). l ++ z ∷ []) so_far
    ∙ ap (λ (w : Z). map h (map f (take i xs)) ++ w ∷ []) same
    ∙ sym (ap (λ (l : List X). map h (map f l)) (take_more xs i x low ∙ ap (λ (y : X). take i xs ++ y ∷ []) (sym is)) ∙ ap (map h) (map-append f (take i xs) (x ∷ [])) ∙ map-append h (map f (take i xs)) (f x ∷ []))

-- the choice of an offer that is there
pub choices-one : {X : Type 0} (read : X → OfferRecord) (offers : List X) (number : ℕ) (o : X) (now before : List ChoiceRecord) (c : ChoiceRecord) → number < length offers → o ≡ get_or offers number o
    → now ≡ before ++ c ∷ [] → c ≡ choice_of (read o) → now ≡ before ++ choices_of (map read offers) (number ∷ [])
choices-one read offers number o now before c low is more same =
    let here : slice_get (map read offers) number ≡ Some (read o) = slice_get-map read offers number ∙ ap (option_map read) (slice_get_read offers (length offers) number o refl low is) in
    more ∙ ap (λ (d : ChoiceRecord). before ++ d ∷ []) same ∙ (rw here refl)

-- ---- copies

pub copied-more : {X : Type 0} (new ys : List X) (y : X) (xs : List X) (i : ℕ) (x : X) → i < length xs → x ≡ get_or xs i x → new ≡ ys ++ y ∷ [] → ys ≡ take i xs → y ≡ x → new ≡ take (i + 1) xs
copied-more {X} new ys y xs i x low is more so_far same =
    more ∙ ap (λ (l : List X). l ++ y ∷ []) so_far ∙ ap (λ (z : X). take i xs ++ z ∷ []) (same ∙ is) ∙ sym (take_more xs i x low)
