-- What is picked from a rising list of candidates.
use Rattle.std.proofs.Common.{◌≡◌, ◌↔◌, ℕ, ◌+◌, ◌<◌, ◌≤◌, length, drop, get_or, drop-cons, add-one, append_assoc, true, false, nat_eq, List, [], ◌∷◌, ◌++◌, Contains, inl, inr, refl, sym, ap, subst, ◌∙◌}
use Rattle.std.proofs.Math.ListN.{drop_of_length-le}
use Rattle.std.proofs.lemmas.List.{append-nil}
use Rattle.std.specs.List.{list_any, AllByRecursion}
use Rattle.std.specs.List.Sorted.{IsStrictlySortedBy, IsStrictlyIncreasing}
use Rattle.std.specs.Ordering.{nat_cmp}
use Rattle.std.specs.declared.cmp.Ordering.TheVariants.{Less}
use Rattle.std.specs.Cmp.{nat_eq_equiv}
use Rattle.std.proofs.lemmas.Bool.Decides.{Decides-eqb}
use Rattle.std.proofs.lemmas.Map.Views.{list_any-from_Contains, Contains-from_any}
use Rattle.std.proofs.lemmas.Map.Keys.{IsStrictlyIncreasing-from_sorted}
use Rattle.cq_index.specs.Steps.Picks.{Picks}
use Rattle.cq_index.specs.Steps.Same.{by_bool}

module _ (P : ℕ → Type 0) where
  picked_in : (xs ys : List ℕ) → Picks P xs ys → (p : ℕ) → list_any (nat_eq p) ys ≡ true → P p
  picked_in [] ys none p h = let no : false ≡ true = sym (ap (list_any (nat_eq p)) none) ∙ h in cc
  picked_in (x ∷ xs) ys (inl k) p h = by_bool (nat_eq p x) (P p)
      (λ t. subst P (sym ((Decides-eqb p x).0 t)) k.0)
      (λ f. picked_in xs k.1 k.3 p (rw f at (sym (ap (list_any (nat_eq p)) k.2) ∙ h)))
  picked_in (x ∷ xs) ys (inr k) p h = picked_in xs ys k.1 p h

  in_picked : (xs ys : List ℕ) → Picks P xs ys → (p : ℕ) → list_any (nat_eq p) xs ≡ true → P p → list_any (nat_eq p) ys ≡ true
  in_picked [] ys none p h is = absurd cc
  in_picked (x ∷ xs) ys (inl k) p h is = ap (list_any (nat_eq p)) k.2 ∙ by_bool (nat_eq p x) _
      (λ t. rw t refl)
      (λ f. rw f (in_picked xs k.1 k.3 p (rw f at h) is))
  in_picked (x ∷ xs) ys (inr k) p h is = by_bool (nat_eq p x) _
      (λ t. absurd (k.0 (subst P ((Decides-eqb p x).0 t) is)))
      (λ f. in_picked xs ys k.1 p (rw f at h) is)

  above_picked : (Q : ℕ → Type 0) (xs ys : List ℕ) → Picks P xs ys → AllByRecursion Q xs → AllByRecursion Q ys
  above_picked Q [] ys none all = subst (AllByRecursion Q) (sym none) tt
  above_picked Q (x ∷ xs) ys (inl k) all = subst (AllByRecursion Q) (sym k.2) (all.0, above_picked Q xs k.1 k.3 all.1)
  above_picked Q (x ∷ xs) ys (inr k) all = above_picked Q xs ys k.1 all.1

  picked_sorted : (xs ys : List ℕ) → Picks P xs ys → IsStrictlySortedBy nat_cmp xs → IsStrictlySortedBy nat_cmp ys
  unfolding IsStrictlySortedBy
  picked_sorted [] ys none sorted = subst (IsStrictlySortedBy nat_cmp) (sym none) tt
  picked_sorted (x ∷ xs) ys (inl k) sorted = subst (IsStrictlySortedBy nat_cmp) (sym k.2) (above_picked (λ y. nat_cmp x y ≡ Less) xs k.1 k.3 sorted.0, picked_sorted xs k.1 k.3 sorted.1)
  picked_sorted (x ∷ xs) ys (inr k) sorted = picked_sorted xs ys k.1 sorted.1

  pub picked_increase : (xs ys : List ℕ) → Picks P xs ys → IsStrictlySortedBy nat_cmp xs → IsStrictlyIncreasing ys
  picked_increase xs ys picks sorted = IsStrictlyIncreasing-from_sorted ys (picked_sorted xs ys picks sorted)

  pub picked_exact : (xs ys : List ℕ) → Picks P xs ys → ((p : ℕ) → P p → list_any (nat_eq p) xs ≡ true) → (p : ℕ) → Contains ys p ↔ P p
  picked_exact xs ys picks all p = (
    (λ h. picked_in xs ys picks p (list_any-from_Contains nat_eq_equiv p ys h)),
    (λ is. Contains-from_any (λ x y. (Decides-eqb x y).0) p ys (in_picked xs ys picks p (all p is) is)),
  )

  -- ---- one more of the list

  next_of : (xs : List ℕ) (i : ℕ) → i < length xs → drop i xs ≡ get_or xs i 0 ∷ drop (i + 1) xs
  next_of xs i h = drop-cons xs i 0 h ∙ ap (λ k. get_or xs i 0 ∷ drop k xs) (sym (add-one i))

  pub picks_pushed : (xs : List ℕ) (i : ℕ) (done after : List ℕ) → i < length xs → after ≡ done ++ get_or xs i 0 ∷ [] → P (get_or xs i 0)
      → ((rest : List ℕ) → Picks P (drop i xs) rest → Picks P xs (done ++ rest)) → (rest : List ℕ) → Picks P (drop (i + 1) xs) rest → Picks P xs (after ++ rest)
  picks_pushed xs i done after h pushed is so_far rest picks =
      let here : Picks P (drop i xs) (get_or xs i 0 ∷ rest) = subst (λ l. Picks P l (get_or xs i 0 ∷ rest)) (sym (next_of xs i h)) (inl (is, rest, refl, picks)) in
      subst (Picks P xs) (sym (ap (λ l. l ++ rest) pushed ∙ append_assoc done (get_or xs i 0 ∷ []) rest)) (so_far (get_or xs i 0 ∷ rest) here)

  pub picks_passed : (xs : List ℕ) (i : ℕ) (done after : List ℕ) → i < length xs → after ≡ done → (P (get_or xs i 0) → ⊥)
      → ((rest : List ℕ) → Picks P (drop i xs) rest → Picks P xs (done ++ rest)) → (rest : List ℕ) → Picks P (drop (i + 1) xs) rest → Picks P xs (after ++ rest)
  picks_passed xs i done after h same is_not so_far rest picks =
      let here : Picks P (drop i xs) rest = subst (λ l. Picks P l rest) (sym (next_of xs i h)) (inr (is_not, picks)) in
      subst (λ l. Picks P xs (l ++ rest)) (sym same) (so_far rest here)

  pub picks_end : (xs : List ℕ) (i : ℕ) (done : List ℕ) → length xs ≤ i → ((rest : List ℕ) → Picks P (drop i xs) rest → Picks P xs (done ++ rest)) → Picks P xs done
  picks_end xs i done h so_far = subst (Picks P xs) (append-nil done) (so_far [] (subst (λ l. Picks P l []) (sym (drop_of_length-le xs h)) refl))
