-- Where a relation is declared, and the order of rows by it.
use Rattle.std.proofs.Common.{◌≡◌, ℕ, suc, ◌<◌, ◌≤◌, Bool, true, false, List, [], ◌∷◌, length, map, get_or, Some, None, refl, sym, ap, ◌∙◌, arith, nat_lt, if◌then◌else◌}
use borrow.Author.Tests.{ltb-true, ltb-false}
use Rattle.std.specs.declared.cmp.Ordering.TheVariants.{Less, Greater}
use Rattle.std.specs.List.{AllByRecursion, IsDistinct, position, position_or_len}
use Rattle.std.specs.Ordering.{nat_cmp}
use Rattle.std.specs.Str.{bytes_eq}
use Rattle.std.proofs.lemmas.Bool.Decides.{nat_tests}
use Rattle.std.proofs.lemmas.Slice.Eq.{bytes_eq-Decides}
use Rattle.std.proofs.lemmas.Map.Keys.{IsDistinct-head, IsDistinct-tail}
use Rattle.cq_atom.specs.Atom.{RowRecord}
use Rattle.cq_rel.specs.Tables.{Declaration, relation_of, declares, arity_in, place_in, row_order, values_order}

pub by_bool : (b : Bool) (P : Type 0) → (b ≡ true → P) → (b ≡ false → P) → P
by_bool true P t f = t refl
by_bool false P t f = f refl

pub same_bytes : (a b : List ℕ) → bytes_eq a b ≡ true → a ≡ b
same_bytes a b e = (bytes_eq-Decides a b).0 e

pub itself : (a : List ℕ) → bytes_eq a a ≡ true
itself a = (bytes_eq-Decides a a).1 refl

pub differ : (a b : List ℕ) → bytes_eq a b ≡ false → bytes_eq b a ≡ false
differ a b e = by_bool (bytes_eq b a) (bytes_eq b a ≡ false) (λ t. absurd (let f : false ≡ true = sym e ∙ ap (bytes_eq a) (same_bytes b a t) ∙ itself a in cc)) (λ f. f)

-- each relation is declared once
abbrev pub Apart : List Declaration → Type 0
Apart [] = Unit {0}
Apart (d ∷ ds) = (arity_in ds d.relation ≡ None) × Apart ds

undeclared : (x : List ℕ) (ds : List Declaration) → AllByRecursion (λ y. bytes_eq x y ≡ false) (map relation_of ds) → arity_in ds x ≡ None
undeclared x [] h = refl
undeclared x (d ∷ ds) h = rw h.0 (undeclared x ds h.1)

pub apart : (catalog : List Declaration) → IsDistinct bytes_eq (map relation_of catalog) → Apart catalog
apart [] h = tt
apart (d ∷ ds) h = (undeclared d.relation ds (IsDistinct-head bytes_eq d.relation (map relation_of ds) h), apart ds (IsDistinct-tail bytes_eq d.relation (map relation_of ds) h))

-- what is declared after d is not d's relation
pub other : (d : Declaration) (ds : List Declaration) (name : List ℕ) (n : ℕ) → arity_in ds d.relation ≡ None → arity_in ds name ≡ Some n → bytes_eq name d.relation ≡ false
other d ds name n free has =
    by_bool (bytes_eq name d.relation) (bytes_eq name d.relation ≡ false)
    (λ t. absurd (let e : arity_in ds name ≡ arity_in ds d.relation = ap (arity_in ds) (same_bytes name d.relation t) in cc)) (λ f. f)

pub place-here : (d : Declaration) (ds : List Declaration) (name : List ℕ) → bytes_eq name d.relation ≡ true → place_in (d ∷ ds) name ≡ 0
place-here d ds name e = rw e refl

pub place-later : (d : Declaration) (ds : List Declaration) (name : List ℕ) → bytes_eq name d.relation ≡ false → place_in (d ∷ ds) name ≡ suc (place_in ds name)
place-later d ds name e = rw e (omega arith)

nat-less : (n : ℕ) → nat_cmp 0 (suc n) ≡ Less
nat-less n = grind (arith, nat_tests)

nat-greater : (n : ℕ) → nat_cmp (suc n) 0 ≡ Greater
nat-greater n = grind (arith, nat_tests)

nat-later : (m n : ℕ) → nat_cmp (suc m) (suc n) ≡ nat_cmp m n
nat-later m n = grind (arith, nat_tests)

pub order-here : (d : Declaration) (ds : List Declaration) (r s : RowRecord) → bytes_eq r.relation d.relation ≡ true → bytes_eq s.relation d.relation ≡ true → row_order (d ∷ ds) r s ≡ values_order r.values s.values
order-here d ds r s e f = rw (place-here d ds r.relation e, place-here d ds s.relation f) refl

pub order-first : (d : Declaration) (ds : List Declaration) (r s : RowRecord) → bytes_eq r.relation d.relation ≡ true → bytes_eq s.relation d.relation ≡ false → row_order (d ∷ ds) r s ≡ Less
order-first d ds r s e f = rw (place-here d ds r.relation e, place-later d ds s.relation f, nat-less (place_in ds s.relation)) refl

pub order-last : (d : Declaration) (ds : List Declaration) (r s : RowRecord) → bytes_eq r.relation d.relation ≡ false → bytes_eq s.relation d.relation ≡ true → row_order (d ∷ ds) r s ≡ Greater
order-last d ds r s e f = rw (place-later d ds r.relation e, place-here d ds s.relation f, nat-greater (place_in ds r.relation)) refl

pub order-later : (d : Declaration) (ds : List Declaration) (r s : RowRecord) → bytes_eq r.relation d.relation ≡ false → bytes_eq s.relation d.relation ≡ false → row_order (d ∷ ds) r s ≡ row_order ds r s
order-later d ds r s e f = rw (place-later d ds r.relation e, place-later d ds s.relation f, nat-later (place_in ds r.relation) (place_in ds s.relation)) refl

-- what a look-up of the place says
placed : (p : Declaration → Bool) (catalog : List Declaration) (i : ℕ) → position p catalog ≡ Some i → (i ≡ position_or_len p catalog) × (i < length catalog)
placed p catalog i e = step (nat_lt (position_or_len p catalog) (length catalog)) refl e
  where
    step : (b : Bool) → nat_lt (position_or_len p catalog) (length catalog) ≡ b → (if b then Some (position_or_len p catalog) else None) ≡ Some i → (i ≡ position_or_len p catalog) × (i < length catalog)
    step true t h =
        let at : position_or_len p catalog ≡ i = cc in
        (sym at, rw (← at) (ltb-true (position_or_len p catalog) (length catalog) t))
    step false t h = absurd cc

pub place-known : (catalog : List Declaration) (name : List ℕ) (i : ℕ) → position (declares name) catalog ≡ Some i → (i ≡ place_in catalog name) × (i < length catalog)
place-known catalog name i e = placed (declares name) catalog i e

far-undeclared : (catalog : List Declaration) (name : List ℕ) → length catalog ≤ place_in catalog name → arity_in catalog name ≡ None
far-undeclared [] name h = refl
far-undeclared (d ∷ ds) name h =
    by_bool (bytes_eq name d.relation) (arity_in (d ∷ ds) name ≡ None)
    (λ t. absurd (let e = place-here d ds name t in omega arith))
    (λ f. rw f (far-undeclared ds name (let e = place-later d ds name f in omega arith)))

pub place-none : (catalog : List Declaration) (name : List ℕ) → position (declares name) catalog ≡ None → arity_in catalog name ≡ None
place-none catalog name e = step (nat_lt (place_in catalog name) (length catalog)) refl e
  where
    step : (b : Bool) → nat_lt (place_in catalog name) (length catalog) ≡ b → (if b then Some (place_in catalog name) else None) ≡ None → arity_in catalog name ≡ None
    step true t h = absurd cc
    step false t h = far-undeclared catalog name (ltb-false (place_in catalog name) (length catalog) t)

pub arity-at : (catalog : List Declaration) (name : List ℕ) (d : Declaration) → place_in catalog name < length catalog → arity_in catalog name ≡ Some ((get_or catalog (place_in catalog name) d).arity)
arity-at [] name d low = absurd (omega arith)
arity-at (e ∷ es) name d low =
    by_bool (bytes_eq name e.relation) (arity_in (e ∷ es) name ≡ Some ((get_or (e ∷ es) (place_in (e ∷ es) name) d).arity))
    (λ t. rw (place-here e es name t, t) refl)
    (λ f. let at = place-later e es name f in rw (at, f) (arity-at es name d (omega arith)))
