-- What histories hold, and what they leave.
use mathlib.Core.List.{IsPrefix}
use Rattle.std.proofs.Common.{◌≡◌, ℕ, zero, suc, ◌+◌, ◌<◌, List, [], ◌∷◌, ◌++◌, length, take, drop, get_or, refl, sym, ap, ◌∙◌, subst, append_assoc, arith, length-append}
use Rattle.std.proofs.lemmas.List.{append-nil, take_more, take_all}
use Rattle.std.proofs.Math.Seq.{drop-append_seam}
use Rattle.cq_desk.specs.History.{edits_of, grown}

pub edits-snoc : {E : Type 0} (h : List (List E)) (p : List E) → edits_of (h ++ p ∷ []) ≡ edits_of h ++ p
edits-snoc [] p = append-nil p
edits-snoc (q ∷ h) p = ap (λ z. q ++ z) (edits-snoc h p) ∙ sym (append_assoc q (edits_of h) p)

pub edits-grown : {E : Type 0} (h : List (List E)) (p : List E) → edits_of (grown h p) ≡ edits_of h ++ p
edits-grown h [] = sym (append-nil (edits_of h))
edits-grown h (e ∷ es) = edits-snoc h (e ∷ es)

-- one more is handed over
pub tells_more : {J : Type 0} (h p q : List J) (n : ℕ) (js : List J) (j : J) → n < length js → j ≡ get_or js n j → q ≡ p ++ j ∷ []
    → h ++ p ≡ take n js → h ++ q ≡ take (n + 1) js
tells_more h p q n js j within at is was =
    ap (λ z. h ++ z) is ∙ (sym (append_assoc h p (j ∷ [])) ∙ (ap (λ z. z ++ j ∷ []) was ∙ (ap (λ z. take n js ++ z ∷ []) at ∙ sym (take_more js n j within))))

-- all is handed over
pub tells_all : {J : Type 0} (h p : List J) (n : ℕ) (js : List J) → n ≡ length js → h ++ p ≡ take n js → h ++ p ≡ js
tells_all h p n js all is = is ∙ take_all n js (omega (arith, all))

pub rest_is : {E : Type 0} (h p t : List E) → h ++ p ≡ t → p ≡ drop (length h) t
rest_is h p t is = sym (drop-append_seam h p) ∙ ap (drop (length h)) is

pub told_length : {E : Type 0} (h p t : List E) → h ++ p ≡ t → length h + length p ≡ length t
told_length h p t is = sym (length-append h p) ∙ ap length is

-- what is reported stays the same where the same would be grown
pub same_told : {E : Type 0} (h k : List (List E)) (p q : List E) → grown k q ≡ grown h p → edits_of k ++ q ≡ edits_of h ++ p
same_told h k p q is = sym (edits-grown k q) ∙ (ap edits_of is ∙ edits-grown h p)

pub take_begins : {A : Type 0} (n : ℕ) (xs : List A) → IsPrefix (take n xs) xs
take_begins zero xs = (xs, refl)
take_begins (suc n) [] = ([], refl)
take_begins (suc n) (x ∷ xs) = let r = take_begins n xs in (r.0, ap (λ z. x ∷ z) r.1)

pub begins_told : {A : Type 0} (t : List A) (n : ℕ) (xs : List A) → t ≡ take n xs → IsPrefix t xs
begins_told t n xs is = subst (λ z. IsPrefix z xs) (sym is) (take_begins n xs)

pub begins_itself : {A : Type 0} (xs : List A) → IsPrefix xs xs
begins_itself xs = ([], append-nil xs)

pub begins_on : {A : Type 0} (xs ys zs : List A) → IsPrefix xs ys → IsPrefix ys zs → IsPrefix xs zs
begins_on xs ys zs p q = (p.0 ++ q.0, sym (append_assoc xs p.0 q.0) ∙ (ap (λ z. z ++ q.0) p.1 ∙ q.1))

pub begins_same : {A : Type 0} (xs ys : List A) → ys ≡ xs → IsPrefix xs ys
begins_same xs ys is = ([], append-nil xs ∙ sym is)

-- what is reported is a front of the journal
pub told_front : {E : Type 0} (t u es js : List E) (n : ℕ) → u ≡ t → t ≡ take n es → es ≡ js → IsPrefix u js
told_front t u es js n same told is = subst (IsPrefix u) is (begins_told u n es (same ∙ told))
