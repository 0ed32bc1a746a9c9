-- What a finite map by places adds up to is what the residents add up to, whatever their order.
use Rattle.std.proofs.Common.{◌≡◌, ℕ, ◌+◌, false, nat_eq, List, [], ◌∷◌, length, Some, None, refl, sym, ap, ◌∙◌, arith}
use Rattle.std.specs.List.{IsDistinct, AllByRecursion, sum_by}
use Rattle.std.specs.Map.{lookup, keys_of}
use Rattle.std.specs.Ordering.{nat_cmp}
use Rattle.std.specs.declared.cmp.Ordering.{Ordering}
use Rattle.std.specs.declared.cmp.Ordering.TheVariants.{Less, Equal, Greater}
use Rattle.std.proofs.lemmas.Cmp.{nat_cmp_total}
use Rattle.std.proofs.lemmas.List.Sums.{sum_by-cons}
use Rattle.std.specs.FinMap.{FinMap, from_entries, find, put, get, entries, entries-insert, get-entries, get-from_entries, same_map, nat_cmp-IsAntisymmetric, empty, len-empty, len-entries}
use Rattle.cq_index.proofs.CallerLemmas.{find-lookup}

no_entry : {X : Type 0} (es : List X) → length es ≡ 0 → es ≡ []
no_entry [] e = refl
no_entry (x ∷ xs) e = absurd (omega arith)

module _ {X : Type 0} where
  lookup_away : (k : ℕ) (es : List (ℕ × X)) → AllByRecursion (λ y. nat_eq k y ≡ false) (keys_of es) → lookup (nat_eq k) es ≡ None
  lookup_away k [] all = refl
  lookup_away k (e ∷ es) all = rw all.0 (lookup_away k es all.1)

  module _ (g : X → ℕ) where
    abbrev total : List (ℕ × X) → ℕ
    total es = sum_by (λ e. g e.1) es

    total-cons : (e : ℕ × X) (es : List (ℕ × X)) → total (e ∷ es) ≡ g e.1 + total es
    total-cons e es = sum_by-cons (λ (x : ℕ × X). g x.1) e es

    placed : (o : Ordering) (k : ℕ) (v : X) (e : ℕ × X) (es : List (ℕ × X)) → nat_cmp k e.0 ≡ o → find nat_cmp k (e ∷ es) ≡ None
        → (find nat_cmp k es ≡ None → total (put nat_cmp k v es) ≡ g v + total es) → total (put nat_cmp k v (e ∷ es)) ≡ g v + total (e ∷ es)
    placed Less k v e es is none rest = rw is (total-cons (k, v) (e ∷ es))
    placed Equal k v e es is none rest = let there : find nat_cmp k (e ∷ es) ≡ Some e.1 = rw is refl in absurd (let no : None ≡ Some e.1 = sym none ∙ there in cc)
    placed Greater k v e es is none rest =
        let gone : find nat_cmp k es ≡ None = rw is at none in
        let more = rest gone in
        let whole = total-cons e es in
        let made = total-cons e (put nat_cmp k v es) in
        rw is (omega (arith, more, whole, made))

    total-put : (k : ℕ) (v : X) (es : List (ℕ × X)) → find nat_cmp k es ≡ None → total (put nat_cmp k v es) ≡ g v + total es
    total-put k v [] none = total-cons (k, v) []
    total-put k v (e ∷ es) none = placed (nat_cmp k e.0) k v e es refl none (total-put k v es)

    total-from_entries : (es : List (ℕ × X)) → IsDistinct nat_eq (keys_of es) → total (entries (from_entries {R = nat_cmp} es)) ≡ total es
    unfolding IsDistinct
    total-from_entries [] distinct = ap total (no_entry (entries (empty {X = X} {R = nat_cmp})) (sym (len-entries (empty {X = X} {R = nat_cmp})) ∙ len-empty nat_cmp X))
    total-from_entries (e ∷ es) distinct =
        let m = from_entries {R = nat_cmp} es in
        let gone : find nat_cmp e.0 (entries m) ≡ None = sym (get-entries m e.0) ∙ get-from_entries nat_cmp_total es e.0 ∙ find-lookup e.0 es ∙ lookup_away e.0 es distinct.0 in
        ap total (entries-insert nat_cmp_total m e.0 e.1) ∙ total-put e.0 e.1 (entries m) gone ∙ ap (λ (n : ℕ). g e.1 + n) (total-from_entries es distinct.1) ∙ sym (total-cons e es)

    -- what a finite map adds up to is what any list of its entries adds up to, each place once
    pub total-same : (m : FinMap nat_cmp X) (es : List (ℕ × X)) → IsDistinct nat_eq (keys_of es) → ((p : ℕ) → get m p ≡ lookup (nat_eq p) es) → sum_by (λ (e : ℕ × X). g e.1) (entries m) ≡ sum_by (λ (e : ℕ × X). g e.1) es
    total-same m es distinct same =
        let is : m ≡ from_entries es = same_map nat_cmp_total nat_cmp-IsAntisymmetric m (from_entries es) (λ p. same p ∙ sym (get-from_entries nat_cmp_total es p ∙ find-lookup p es)) in
        ap (λ (n : FinMap nat_cmp X). total (entries n)) is ∙ total-from_entries es distinct
