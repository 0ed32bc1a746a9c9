-- Counts of postconditions, and places.
use Rattle.std.proofs.Common.{◌≡◌, ℕ, ◌<◌, ◌≤◌, ◌≢◌, ◌⊎◌, inl, inr, true, false, eqb, ltb, List, [], length, get_or, set, sym, ap, ◌∙◌, subst, arith, eq-eqb}
use borrow.Author.Tests.{ltb-true, ltb-false}
use Rattle.std.proofs.lemmas.Bool.{eqb-true}
use Rattle.std.proofs.lemmas.List.{get_or-set_same, get_or-set_other, get_or_past, length-set}
use Rattle.cq_match.specs.declared.graph.Place.{Place}
use Rattle.cq_match.specs.Steps.Kept.{free, place_at, count_at}
use Rattle.cq_match.proofs.Tests.{by_bool}

pub differ : (a b : ℕ) → eqb a b ≡ false → a ≢ b
differ a b f e = let never : false ≡ true = sym f ∙ eq-eqb a b e in absurd cc

-- a postcondition has a place, and so has its node
pub post-placed : (places : List Place) (n k : ℕ) → k < (place_at places n).posts → n < length places
post-placed places n k low =
    by_bool (ltb n (length places)) (n < length places) (λ t. ltb-true n (length places) t)
    (λ f.
    let past : place_at places n ≡ free = get_or_past places n free (ltb-false n (length places) f) in
    let none : (place_at places n).posts ≡ 0 = ap (λ (place : Place). place.posts) past in
    absurd (omega arith))

pub able-placed : (places : List Place) (n : ℕ) → (place_at places n).able ≡ true → n < length places
able-placed places n able =
    by_bool (ltb n (length places)) (n < length places) (λ t. ltb-true n (length places) t)
    (λ f.
    let past : place_at places n ≡ free = get_or_past places n free (ltb-false n (length places) f) in
    let never : false ≡ true = sym (ap (λ (place : Place). place.able) past) ∙ able in
    absurd cc)

abbrev pub row : List (List ℕ) → ℕ → List ℕ
row counts n = get_or counts n []

-- one count changed
abbrev pub with_count : List (List ℕ) → ℕ → ℕ → ℕ → List (List ℕ)
with_count counts w k x = set counts w (set (row counts w) k x)

pub count-same : (counts : List (List ℕ)) (w k x : ℕ) → w < length counts → k < length (row counts w) → count_at (with_count counts w k x) w k ≡ x
count-same counts w k x low inside =
    ap (λ (r : List ℕ). get_or r k 0) (get_or-set_same counts w (set (row counts w) k x) [] low) ∙ get_or-set_same (row counts w) k x 0 inside

pub count-other_node : (counts : List (List ℕ)) (w k x n j : ℕ) → n ≢ w → count_at (with_count counts w k x) n j ≡ count_at counts n j
count-other_node counts w k x n j apart = ap (λ (r : List ℕ). get_or r j 0) (get_or-set_other counts w n (set (row counts w) k x) [] apart)

pub count-other_post : (counts : List (List ℕ)) (w k x j : ℕ) → w < length counts → j ≢ k → count_at (with_count counts w k x) w j ≡ count_at counts w j
count-other_post counts w k x j low apart =
    ap (λ (r : List ℕ). get_or r j 0) (get_or-set_same counts w (set (row counts w) k x) [] low) ∙ get_or-set_other (row counts w) k j x 0 apart

-- what holds of the changed count and of all others holds of all
pub count-cases : (counts : List (List ℕ)) (w k x n j : ℕ) (P : ℕ → Type 0) → w < length counts → k < length (row counts w)
    → ((n ≡ w) → (j ≡ k) → P x) → ((n ≢ w) ⊎ (j ≢ k) → P (count_at counts n j)) → P (count_at (with_count counts w k x) n j)
count-cases counts w k x n j P low inside here there =
    by_bool (eqb n w) (P (count_at (with_count counts w k x) n j))
    (λ t.
    let is : n ≡ w = eqb-true n w t in
    by_bool (eqb j k) (P (count_at (with_count counts w k x) n j))
    (λ u.
    let also : j ≡ k = eqb-true j k u in
    let at : count_at (with_count counts w k x) n j ≡ x = ap (λ m. count_at (with_count counts w k x) m j) is ∙ ap (count_at (with_count counts w k x) w) also ∙ count-same counts w k x low inside in
    subst P (sym at) (here is also))
    (λ f.
    let at : count_at (with_count counts w k x) n j ≡ count_at counts n j =
    ap (λ m. count_at (with_count counts w k x) m j) is ∙ count-other_post counts w k x j low (differ j k f) ∙ ap (λ m. count_at counts m j) (sym is) in
    subst P (sym at) (there (inr (differ j k f)))))
    (λ f. subst P (sym (count-other_node counts w k x n j (differ n w f))) (there (inl (differ n w f))))

pub row-len : (counts : List (List ℕ)) (w k x n : ℕ) → length (row (with_count counts w k x) n) ≡ length (row counts n)
row-len counts w k x n =
    by_bool (eqb n w) (length (row (with_count counts w k x) n) ≡ length (row counts n))
    (λ t.
    let is : n ≡ w = eqb-true n w t in
    by_bool (ltb n (length counts)) (length (row (with_count counts w k x) n) ≡ length (row counts n))
    (λ u.
    let low : w < length counts = let m = ltb-true n (length counts) u in omega arith in
    ap (λ m. length (row (with_count counts w k x) m)) is ∙ ap length (get_or-set_same counts w (set (row counts w) k x) [] low) ∙ length-set (row counts w) k x ∙ ap (λ m. length (row counts m)) (sym is))
    (λ f.
    let past : length counts ≤ n = ltb-false n (length counts) f in
    let len = length-set counts w (set (row counts w) k x) in
    ap length (get_or_past (with_count counts w k x) n [] (omega arith)) ∙ sym (ap length (get_or_past counts n [] past))))
    (λ f. ap length (get_or-set_other counts w n (set (row counts w) k x) [] (differ n w f)))

pub taken-placed : (places : List Place) (n : ℕ) → (place_at places n).taken ≡ true → n < length places
taken-placed places n taken =
    by_bool (ltb n (length places)) (n < length places) (λ t. ltb-true n (length places) t)
    (λ f.
    let past : place_at places n ≡ free = get_or_past places n free (ltb-false n (length places) f) in
    let never : false ≡ true = sym (ap (λ (place : Place). place.taken) past) ∙ taken in
    absurd cc)
