-- What is left of a list.
use Rattle.std.proofs.Common.{◌≡◌, ℕ, Bool, true, false, List, filter, get_or, eqb, eq-eqb, sym, ap, ◌∙◌, subst}
use Rattle.std.specs.List.{Contains, list_any}
use Rattle.std.proofs.lemmas.Bool.{eqb-true}
use Rattle.std.proofs.lemmas.Cmp.{nat_eq_equiv}
use Rattle.std.proofs.lemmas.List.Elements.{All-contains, All-contains_itself, All-filter, filter_passes}
use Rattle.std.proofs.lemmas.List.Folds.{Any-from_list_any, list_any_at}
use Rattle.std.proofs.lemmas.Map.Views.{any-filter_same, list_any-from_Contains}

-- what is not listed is no element
pub not-listed : (xs shown : List ℕ) (m : ℕ) → shown ≡ xs → list_any (λ y. eqb y m) shown ≡ false → Contains xs m → ⊥
not-listed xs shown m is none (k, low, at) =
    let found : list_any (λ y. eqb y m) xs ≡ true = list_any_at (λ y. eqb y m) xs k m low (eq-eqb (get_or xs k m) m at) in
    let missed : list_any (λ y. eqb y m) xs ≡ false = subst (λ (l : List ℕ). list_any (λ y. eqb y m) l ≡ false) is none in
    let never : false ≡ true = sym missed ∙ found in cc

module _ (test : ℕ → Bool) (xs : List ℕ) (m : ℕ) where
  pub left-has : Contains xs m → test m ≡ true → Contains (filter test xs) m
  left-has i t =
      let found = any-filter_same (eqb m) test true (λ k e. ap test (sym (eqb-true m k e)) ∙ t) xs ∙ list_any-from_Contains nat_eq_equiv m xs i in
      let (k, x, low, at, same) = Any-from_list_any (eqb m) (filter test xs) found in
      subst (Contains (filter test xs)) (sym (eqb-true m x same)) (k, low, at)

  pub left-from : Contains (filter test xs) m → Contains xs m
  left-from i = All-contains (Contains xs) (filter test xs) m (All-filter test (Contains xs) xs (All-contains_itself xs)) i

  pub left-passes : Contains (filter test xs) m → test m ≡ true
  left-passes i = All-contains (λ q. test q ≡ true) (filter test xs) m (filter_passes test xs) i
