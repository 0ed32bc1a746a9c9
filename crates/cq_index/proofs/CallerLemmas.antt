-- What a caller cites of an index: how many candidates there are, counted over any list of what stands in it.
use Rattle.std.proofs.Common.{◌≡◌, ℕ, ◌+◌, Bool, true, false, cond, nat_eq, List, [], ◌∷◌, map, length, filter, Some, None, refl, sym, ap, ◌∙◌, arith}
use Rattle.std.proofs.Math.ListN.{length-map}
use Rattle.std.specs.List.{IsDistinct, AllByRecursion}
use Rattle.std.specs.Map.{lookup, keys_of}
use Rattle.std.specs.Ordering.{nat_cmp}
use Rattle.std.specs.declared.cmp.Ordering.{Ordering}
use Rattle.std.specs.declared.cmp.Ordering.TheVariants.{Less, Equal, Greater}
use Rattle.std.proofs.lemmas.Cmp.{nat_cmp_total}
use Rattle.std.specs.FinMap.{FinMap, from_entries, find, put, get, entries, entries-insert, get-entries, get-from_entries, same_map, nat_cmp-IsAntisymmetric, empty, len-empty, len-entries}
use Rattle.cq_atom.specs.Atom.{AtomRecord}
use Rattle.cq_index.specs.Index.{is_candidate, candidates_of}
use Rattle.cq_index.specs.Steps.Same.{by_bool}
use Rattle.cq_index.proofs.Views.{nat_tie}

no_entry : {X : Type 0} (es : List X) → length es ≡ 0 → es ≡ []
no_entry [] e = refl
no_entry (x ∷ xs) e = absurd (omega arith)

module _ {X : Type 0} where
  -- what a finite map finds is what a look-up finds
  pub find-lookup : (p : ℕ) (es : List (ℕ × X)) → find nat_cmp p es ≡ lookup (nat_eq p) es
  find-lookup p [] = refl
  find-lookup p (e ∷ es) = rw (nat_tie p e.0) (by_bool (nat_eq p e.0) _ (λ t. rw t refl) (λ f. rw f (find-lookup p es)))

  lookup_away : (k : ℕ) (es : List (ℕ × X)) → AllByRecursion (λ y. nat_eq k y ≡ false) (keys_of es) → lookup (nat_eq k) es ≡ None
  lookup_away k [] all = refl
  lookup_away k (e ∷ es) all = rw all.0 (lookup_away k es all.1)

  module _ (Q : ℕ × X → Bool) where
    length_picked : (es : List (ℕ × X)) → length (map (λ e. e.0) (filter Q es)) ≡ length (filter Q es)
    length_picked es = length-map (filter Q es) (λ e. e.0)

    one_more : (b c : Bool) (e f : ℕ × X) (xs ys : List (ℕ × X)) → length xs ≡ cond b 1 0 + length ys → length (cond c (f ∷ xs) xs) ≡ cond b 1 0 + length (cond c (f ∷ ys) ys)
    one_more b true e f xs ys h = omega (arith, h)
    one_more b false e f xs ys h = h

    at_front : (b : Bool) (e : ℕ × X) (xs : List (ℕ × X)) → length (cond b (e ∷ xs) xs) ≡ cond b 1 0 + length xs
    at_front true e xs = omega arith
    at_front false e xs = omega arith

    placed : (o : Ordering) (k : ℕ) (v : X) (e : ℕ × X) (es : List (ℕ × X)) → nat_cmp k e.0 ≡ o → find nat_cmp k (e ∷ es) ≡ None
        → (find nat_cmp k es ≡ None → length (filter Q (put nat_cmp k v es)) ≡ cond (Q (k, v)) 1 0 + length (filter Q es))
        → length (filter Q (put nat_cmp k v (e ∷ es))) ≡ cond (Q (k, v)) 1 0 + length (filter Q (e ∷ es))
    placed Less k v e es is none rest = rw is (at_front (Q (k, v)) (k, v) (filter Q (e ∷ es)))
    placed Equal k v e es is none rest = let there : find nat_cmp k (e ∷ es) ≡ Some e.1 = rw is refl in absurd (let no : None ≡ Some e.1 = sym none ∙ there in cc)
    placed Greater k v e es is none rest =
        let gone : find nat_cmp k es ≡ None = rw is at none in
        rw is (one_more (Q (k, v)) (Q e) e e (filter Q (put nat_cmp k v es)) (filter Q es) (rest gone))

    count-put : (k : ℕ) (v : X) (es : List (ℕ × X)) → find nat_cmp k es ≡ None → length (filter Q (put nat_cmp k v es)) ≡ cond (Q (k, v)) 1 0 + length (filter Q es)
    count-put k v [] none = at_front (Q (k, v)) (k, v) []
    count-put k v (e ∷ es) none = placed (nat_cmp k e.0) k v e es refl none (count-put k v es)

    count-from_entries : (es : List (ℕ × X)) → IsDistinct nat_eq (keys_of es) → length (filter Q (entries (from_entries {R = nat_cmp} es))) ≡ length (filter Q es)
    unfolding IsDistinct
    count-from_entries [] distinct = ap (λ l. length (filter Q l)) (no_entry (entries (empty {X = X} {R = nat_cmp})) (sym (len-entries (empty {X = X} {R = nat_cmp})) ∙ len-empty nat_cmp X))
    count-from_entries (e ∷ es) distinct =
        let m = from_entries {R = nat_cmp} es in
        let gone : find nat_cmp e.0 (entries m) ≡ None = sym (get-entries m e.0) ∙ get-from_entries nat_cmp_total es e.0 ∙ find-lookup e.0 es ∙ lookup_away e.0 es distinct.0 in
        ap (λ l. length (filter Q l)) (entries-insert nat_cmp_total m e.0 e.1) ∙ count-put e.0 e.1 (entries m) gone ∙ ap (λ n. cond (Q e) 1 0 + n) (count-from_entries es distinct.1) ∙ sym (at_front (Q e) e (filter Q es))

-- the candidates are as many as those among any list of the atoms with their places, each place once
pub candidates-count : (index : FinMap nat_cmp AtomRecord) (given : AtomRecord) (es : List (ℕ × AtomRecord)) → IsDistinct nat_eq (keys_of es) → ((p : ℕ) → get index p ≡ lookup (nat_eq p) es)
    → length (candidates_of index given) ≡ length (filter (λ e. is_candidate given e.1) es)
candidates-count index given es distinct same =
    let is : index ≡ from_entries es = same_map nat_cmp_total nat_cmp-IsAntisymmetric index (from_entries es) (λ p. same p ∙ sym (get-from_entries nat_cmp_total es p ∙ find-lookup p es)) in
    length_picked (λ e. is_candidate given e.1) (entries index) ∙ ap (λ m. length (filter (λ e. is_candidate given e.1) (entries m))) is ∙ count-from_entries (λ e. is_candidate given e.1) es distinct
