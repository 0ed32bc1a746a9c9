-- The numbers of the nodes that stand, one place further.
use Rattle.std.proofs.Common.{◌≡◌, ℕ, ◌+◌, ◌<◌, ◌≤◌, ◌≢◌, Bool, true, false, ◌||◌, eqb, ltb, List, [], ◌∷◌, ◌++◌, length, get_or, refl, sym, ap, ◌∙◌, subst, arith, eq-eqb, nat_eq}
use borrow.Author.Tests.{ltb-true, ltb-false}
use Rattle.std.specs.List.{All, Contains}
use Rattle.std.specs.List.Sorted.{IsStrictlyIncreasing}
use Rattle.std.specs.Set.{is_member}
use Rattle.std.proofs.Math.Bool.{or-false}
use Rattle.std.proofs.lemmas.Bool.{eqb-true}
use Rattle.std.proofs.lemmas.Bool.Decides.{nat_tests}
use Rattle.std.proofs.lemmas.List.{get_or_append_left, get_or_push, length-append}
use Rattle.std.proofs.lemmas.List.Elements.{All-push, Contains-get_or}
use Rattle.std.proofs.lemmas.List.Folds.{list_any-append, list_any_none}
use Rattle.cq_match.specs.Matched.{numbers}
use Rattle.cq_match.specs.Steps.Places.{number_at, IsRanked}
use Rattle.cq_match.specs.Steps.Settle.{stands}
use Rattle.cq_match.proofs.Tests.{by_bool}
use Rattle.cq_match.proofs.Ranks.{Nodes, numbers-get_or, length-numbers}

pub number-known : (ranked : Nodes) (i : ℕ) → i < length ranked → Contains (numbers ranked) (number_at ranked i)
number-known ranked i low =
    let len = length-numbers ranked in
    subst (Contains (numbers ranked)) (numbers-get_or ranked i low) (Contains-get_or (numbers ranked) i 0 (omega arith))

abbrev pub FoundBelow : Nodes → List Bool → List ℕ → ℕ → Type 0
FoundBelow ranked standing found i = (place : ℕ) → place < i → is_member nat_eq found (number_at ranked place) ≡ stands standing place

smaller-differs : (a b : ℕ) → a < b → eqb b a ≡ false
smaller-differs a b h = grind (arith, nat_tests)

larger-differs : (a b : ℕ) → a < b → eqb a b ≡ false
larger-differs a b h = grind (arith, nat_tests)

absent : (found : List ℕ) (n : ℕ) → All (λ m. m < n) found → is_member nat_eq found n ≡ false
absent found n below = list_any_none (eqb n) found (λ k d low. smaller-differs (get_or found k d) n (below k d low))

one-further : (i : ℕ) (P : ℕ → Type 0) → ((p : ℕ) → p < i → P p) → P i → (p : ℕ) → p < i + 1 → P p
one-further i P before at p low =
    by_bool (eqb p i) (P p) (λ t. subst P (sym (eqb-true p i t)) at)
    (λ f. let apart : p ≢ i = λ e. let never : false ≡ true = sym f ∙ eq-eqb p i e in cc in before p (omega arith))

pub found-standing : (ranked : Nodes) (standing : List Bool) (found : List ℕ) (i : ℕ) → IsRanked ranked → i < length ranked → stands standing i ≡ true
    → FoundBelow ranked standing found i → FoundBelow ranked standing (found ++ number_at ranked i ∷ []) (i + 1)
found-standing ranked standing found i rising low up found_below =
    let n = number_at ranked i in
    let parts : (m : ℕ) → is_member nat_eq (found ++ n ∷ []) m ≡ (is_member nat_eq found m || (eqb m n || false)) = λ m. list_any-append (eqb m) found (n ∷ []) in
    one-further i (λ p. is_member nat_eq (found ++ n ∷ []) (number_at ranked p) ≡ stands standing p)
    (λ p h.
    let other : eqb (number_at ranked p) n ≡ false = larger-differs (number_at ranked p) n (rising p i h low) in
    parts (number_at ranked p) ∙ ap (λ (b : Bool). is_member nat_eq found (number_at ranked p) || (b || false)) other ∙ or-false (is_member nat_eq found (number_at ranked p)) ∙ found_below p h)
    (parts n ∙ ap (λ (b : Bool). is_member nat_eq found n || (b || false)) (eq-eqb n n refl) ∙ or-true (is_member nat_eq found n) ∙ sym up)
  where
    or-true : (b : Bool) → (b || true) ≡ true
    or-true true = refl
    or-true false = refl

pub found-fallen : (ranked : Nodes) (standing : List Bool) (found : List ℕ) (i : ℕ) → stands standing i ≡ false → All (λ m. m < number_at ranked i) found
    → FoundBelow ranked standing found i → FoundBelow ranked standing found (i + 1)
found-fallen ranked standing found i down below found_below =
    one-further i (λ p. is_member nat_eq found (number_at ranked p) ≡ stands standing p) found_below (absent found (number_at ranked i) below ∙ sym down)

abbrev pub Below : Nodes → List ℕ → ℕ → Type 0
Below ranked found i = (place : ℕ) → i ≤ place → place < length ranked → All (λ number. number < number_at ranked place) found

pub below-standing : (ranked : Nodes) (found : List ℕ) (i : ℕ) → IsRanked ranked → Below ranked found i → Below ranked (found ++ number_at ranked i ∷ []) (i + 1)
below-standing ranked found i rising below place from low =
    All-push (λ number. number < number_at ranked place) found (number_at ranked i) (below place (omega arith) low) (rising i place (omega arith) low)

pub increasing-push : (xs : List ℕ) (y : ℕ) → IsStrictlyIncreasing xs → All (λ x. x < y) xs → IsStrictlyIncreasing (xs ++ y ∷ [])
increasing-push xs y up below k low =
    let len : length (xs ++ y ∷ []) ≡ length xs + 1 = length-append xs (y ∷ []) in
    let here : get_or (xs ++ y ∷ []) k 0 ≡ get_or xs k 0 = get_or_append_left xs (y ∷ []) 0 k (omega arith) in
    by_bool (ltb (k + 1) (length xs)) (get_or (xs ++ y ∷ []) k 0 < get_or (xs ++ y ∷ []) (k + 1) 0)
    (λ t.
    let inside = ltb-true (k + 1) (length xs) t in
    let next : get_or (xs ++ y ∷ []) (k + 1) 0 ≡ get_or xs (k + 1) 0 = get_or_append_left xs (y ∷ []) 0 (k + 1) inside in
    let less = up k inside in
    omega arith)
    (λ f.
    let outside = ltb-false (k + 1) (length xs) f in
    let next : get_or (xs ++ y ∷ []) (k + 1) 0 ≡ y = get_or_push xs y 0 (k + 1) (omega arith) in
    let less = below k 0 (omega arith) in
    omega arith)
