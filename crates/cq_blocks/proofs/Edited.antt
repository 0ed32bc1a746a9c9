-- What an edit leaves of the blocks: where it put or took an element, and where it was refused.
use Rattle.std.proofs.Common.{◌≡◌, Some, None, ℕ, suc, ◌+◌, ◌-◌, ◌<◌, ◌≤◌, true≢false, List, [], ◌∷◌, ◌++◌, length, take, get_or, inl, inr, sym, ap, subst, ◌∙◌, arith, append-nil}
use Rattle.std.specs.List.{slice_get, insert, remove}
use Rattle.std.specs.Prelude.{Vec, Result, Ok, Err, IfOk, OnOk, OnErr}
use Rattle.std.specs.Result.{IsErr}
use Rattle.std.proofs.lemmas.Option.{slice_get_cases}
use Rattle.std.proofs.lemmas.List.{map-append, get_or_past, take_all, drop_all}
use Rattle.std.proofs.lemmas.List.Edits.{length-remove}
use Rattle.cq_blocks.specs.declared.place.Place.{Place}
use Rattle.cq_blocks.specs.Blocks.{elements, flat, lists_of, AreFilled}
use Rattle.cq_blocks.proofs.Lists.{filled-append, flat-within, elements-push}

-- ---- what was refused

pub no-ok : {T E : Type 0} (P : T → Type 0) (r : Result T E) → IsErr r → IfOk r P
no-ok P (Ok x) e = absurd (true≢false (sym e))
no-ok P (Err e) f = tt

pub on_err_more : {T E P Q : Type 0} (r : Result T E) → (P → Q) → OnErr r P → OnErr r Q
on_err_more (Ok x) f p = tt
on_err_more (Err e) f p = f p

-- ---- a block of one element after the others

pub lists-push : {X Z : Type 0} (vs us ws : List (Vec X Z)) (b : Vec X Z) (xs : List X) (x : X) → us ≡ vs → ws ≡ us ++ b ∷ [] → b.items ≡ xs ++ x ∷ [] → xs ≡ [] → lists_of ws ≡ lists_of vs ++ (x ∷ []) ∷ []
lists-push {X} {Z} vs us ws b xs x room more is none =
    ap (λ l. lists_of l) more
    ∙ map-append (λ (w : Vec X Z). w.items) us (b ∷ [])
    ∙ ap (λ l. lists_of l ++ b.items ∷ []) room
    ∙ ap (λ l. lists_of vs ++ l ∷ []) (is ∙ ap (λ l. l ++ x ∷ []) none)

module _ {X : Type 0} (bs cs : List (List X)) (x : X) where
  pub pushed-at : (k i : ℕ) → k ≡ length bs → i ≤ length (get_or bs k []) → cs ≡ bs ++ (x ∷ []) ∷ [] → elements cs ≡ insert (elements bs) (length (elements (take k bs)) + i) x
  pushed-at k i same high is =
      let first : 0 ≡ i = omega (arith, high, ap (λ l. length l) (get_or_past bs k [] (omega (arith, same)))) in
      ap (λ l. elements l) is
      ∙ elements-push bs x
      ∙ ap (λ n. insert (elements bs) (length (elements (take n bs)) + 0) x) (sym same)
      ∙ ap (λ n. insert (elements bs) (length (elements (take k bs)) + n) x) first

  pub pushed-filled : {T E : Type 0} (r : Result T E) → OnOk r (cs ≡ bs ++ (x ∷ []) ∷ []) → OnErr r (cs ≡ bs) → AreFilled bs → AreFilled cs
  pushed-filled (Ok done) ok err filled = let some : 0 < length (x ∷ []) = omega arith in subst (λ l. AreFilled l) (sym ok) (filled-append bs ((x ∷ []) ∷ []) filled (some, tt))
  pushed-filled (Err e) ok err filled = subst (λ l. AreFilled l) (sym err) filled

-- ---- an element that is taken away

pub removed-past : {X : Type 0} (xs : List X) (n : ℕ) → length xs ≤ n → xs ≡ remove xs n
removed-past xs n past = sym (ap (λ l. take n xs ++ l) (drop_all (suc n) xs (omega (arith, past))) ∙ append-nil (take n xs) ∙ take_all n xs past)

module _ {X : Type 0} (bs : List (List X)) (k i : ℕ) (within : k < length bs) (inside : i < length (get_or bs k [])) (n : ℕ) (count : n ≡ length (elements bs)) where
  pub some-element : 1 ≤ n
  some-element = omega (arith, count, flat-within bs k i within inside)

  pub one-less : (cs : List (List X)) → elements cs ≡ remove (elements bs) (length (elements (take k bs)) + i) → n - 1 ≡ length (elements cs)
  one-less cs is =
      let at = flat-within bs k i within inside in
      omega (arith, count, ap (λ l. length l) is, length-remove (elements bs) (length (elements (take k bs)) + i) at)

-- blocks that are seen as others
module _ {X : Type 0} (bs cs : List (List X)) (view : bs ≡ cs) where
  pub before-view : (k i : ℕ) → k < length cs → i < length (get_or cs k []) → (k < length bs) × (i < length (get_or bs k []))
  before-view k i h within = (subst (λ l. k < length l) (sym view) h, subst (λ l. i < length (get_or l k [])) (sym view) within)

  module _ (p q : Place) (same : flat cs p ≡ flat cs q) where
    pub read-view : (x : X) → slice_get (elements bs) (flat bs p) ≡ Some x → Some x ≡ slice_get (elements cs) (flat cs q)
    read-view x is = sym is ∙ ap (λ l. slice_get (elements l) (flat l p)) view ∙ ap (λ n. slice_get (elements cs) n) same

    pub removed-view : (xs : List X) → xs ≡ remove (elements bs) (flat bs p) → xs ≡ remove (elements cs) (flat cs q)
    removed-view xs is = is ∙ ap (λ l. remove (elements l) (flat l p)) view ∙ ap (λ n. remove (elements cs) n) same

-- fewer are left from the index on
pub left-less : {X : Type 0} (xs ys : List X) (n i : ℕ) → i < length xs → n ≡ i → ys ≡ remove xs n → length ys - i < length xs - i
left-less xs ys n i within same is = omega (arith, within, same, ap (λ l. length l) is, length-remove xs n (omega (arith, within, same)))

-- an element that is there is not missed
pub not-missed : {X : Type 0} (xs : List X) (n i : ℕ) → i < length xs → n ≡ i → None ≡ slice_get xs n → ⊥
not-missed xs n i within same none = elim ((slice_get_cases xs n).1) [ inl there ↦ cc (none, there.2) | inr past ↦ omega (arith, past.0, within, same) ]
