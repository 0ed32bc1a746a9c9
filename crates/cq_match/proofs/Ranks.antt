-- Nodes in rising order of their numbers.
use Rattle.std.proofs.Common.{◌≡◌, ℕ, Bool, ◌<◌, ◌≤◌, ◌≢◌, true, false, eqb, ltb, List, length, get_or, sym, ap, ◌∙◌, arith, eq-eqb, nat_eq}
use Rattle.std.specs.declared.cmp.Ordering.TheVariants.{Less, Equal, Greater}
use Rattle.std.specs.List.{Contains, IsDistinct}
use Rattle.std.specs.List.Sorted.{IsPermutation, IsNonDecreasingBy, IsPartitionPoint}
use Rattle.std.specs.Ordering.{nat_cmp, ordering_index}
use Rattle.std.proofs.lemmas.Bool.{eqb-true}
use Rattle.std.proofs.lemmas.Bool.Decides.{nat_tests}
use Rattle.std.proofs.lemmas.List.{get_or-map, get_or_default, length-map}
use Rattle.std.proofs.lemmas.List.Sorted.{IsPermutation-map}
use Rattle.std.proofs.lemmas.Map.Keys.{IsDistinct-IsPermutation, apart_from_distinct}
use Rattle.cq_match.specs.Matched.{numbers}
use Rattle.cq_match.specs.Steps.Places.{number_at, IsRanked}
use Rattle.cq_match.proofs.Tests.{by_bool}

abbrev pub Nodes : Type 0
Nodes = List (ℕ × ℕ × Bool)

pub numbers-get_or : (nodes : Nodes) (i : ℕ) → i < length nodes → get_or (numbers nodes) i 0 ≡ number_at nodes i
numbers-get_or nodes i low = get_or-map (λ node. node.0) nodes i (0, 0, false) 0 low

pub length-numbers : (nodes : Nodes) → length (numbers nodes) ≡ length nodes
length-numbers nodes = length-map nodes (λ node. node.0)

eqb-flips : (x y : ℕ) → eqb x y ≡ eqb y x
eqb-flips x y = grind (arith, nat_tests)

pub ranked-from_sort : (nodes ranked : Nodes) → IsDistinct nat_eq (numbers nodes) → IsPermutation nodes ranked → IsNonDecreasingBy (λ (node : ℕ × ℕ × Bool). node.0) ranked → IsRanked ranked
ranked-from_sort nodes ranked distinct moved rises i j before low =
    let still : IsDistinct nat_eq (numbers ranked) = IsDistinct-IsPermutation nat_eq eqb-flips (numbers nodes) (numbers ranked) (IsPermutation-map (λ (node : ℕ × ℕ × Bool). node.0) nodes ranked moved) distinct in
    let len = length-numbers ranked in
    let apart : eqb (get_or (numbers ranked) i 0) (get_or (numbers ranked) j 0) ≡ false = apart_from_distinct nat_eq (numbers ranked) i j 0 still before (omega arith) in
    let first = numbers-get_or ranked i (omega arith) in
    let second = numbers-get_or ranked j low in
    let differ : number_at ranked i ≢ number_at ranked j = λ e.
    let never : false ≡ true = sym apart ∙ eq-eqb (get_or (numbers ranked) i 0) (get_or (numbers ranked) j 0) (first ∙ e ∙ sym second) in cc in
    let least : number_at ranked i ≤ number_at ranked j = rises i j (0, 0, false) (omega arith) low in
    omega arith

-- a number stands at one place
pub one-place : (ranked : Nodes) → IsRanked ranked → (i j : ℕ) → i < length ranked → j < length ranked → number_at ranked i ≡ number_at ranked j → i ≡ j
one-place ranked rising i j low_i low_j same =
    by_bool (ltb i j) (i ≡ j)
    (λ t. absurd (let less = rising i j (ltb-says i j t) low_j in omega arith))
    (λ f. by_bool (ltb j i) (i ≡ j)
    (λ t. absurd (let less = rising j i (ltb-says j i t) low_i in omega arith))
    (λ g. let a = ltb-denies i j f in let b = ltb-denies j i g in omega arith))
  where
    ltb-says : (a b : ℕ) → ltb a b ≡ true → a < b
    ltb-says a b t = grind (arith, nat_tests)

    ltb-denies : (a b : ℕ) → ltb a b ≡ false → b ≤ a
    ltb-denies a b f = grind (arith, nat_tests)

-- ---- the search for a number

order-rises : (a b x : ℕ) → a ≤ b → ordering_index (nat_cmp a x) ≤ ordering_index (nat_cmp b x)
order-rises a b x h = grind (arith, nat_tests)

pub searchable : (ranked : Nodes) → IsRanked ranked → (x : ℕ) → IsNonDecreasingBy (λ (node : ℕ × ℕ × Bool). ordering_index (nat_cmp node.0 x)) ranked
searchable ranked rising x i j d upto low =
    let di : get_or ranked i d ≡ get_or ranked i (0, 0, false) = get_or_default ranked i d (0, 0, false) (omega arith) in
    let dj : get_or ranked j d ≡ get_or ranked j (0, 0, false) = get_or_default ranked j d (0, 0, false) low in
    let least : number_at ranked i ≤ number_at ranked j = at-most ranked rising i j upto low in
    rw (di, dj) (order-rises (number_at ranked i) (number_at ranked j) x least)
  where
    at-most : (ranked : Nodes) → IsRanked ranked → (i j : ℕ) → i ≤ j → j < length ranked → number_at ranked i ≤ number_at ranked j
    at-most ranked rising i j upto low =
        by_bool (eqb i j) (number_at ranked i ≤ number_at ranked j)
        (λ t. let same : number_at ranked i ≡ number_at ranked j = ap (number_at ranked) (eqb-true i j t) in omega arith)
        (λ f.
        let apart : i ≢ j = λ e. let never : false ≡ true = sym f ∙ eq-eqb i j e in cc in
        let less = rising i j (omega arith) low in omega arith)

pub equal-is : (a b : ℕ) → nat_cmp a b ≡ Equal → a ≡ b
equal-is a b e = grind (arith, nat_tests)

same-order : (a : ℕ) → nat_cmp a a ≡ Equal
same-order a = grind (arith, nat_tests)

-- a number that stands at a place is not missed
pub not-missed : (ranked : Nodes) (x i : ℕ) → Contains (numbers ranked) x → IsPartitionPoint (λ (node : ℕ × ℕ × Bool). nat_cmp node.0 x ≡ Less) (λ (node : ℕ × ℕ × Bool). nat_cmp node.0 x ≡ Greater) ranked i → ⊥
not-missed ranked x i (k, low, at) parts =
    let len = length-numbers ranked in
    let inside : k < length ranked = omega arith in
    let here : number_at ranked k ≡ x = sym (numbers-get_or ranked k inside) ∙ get_or_default (numbers ranked) k 0 x low ∙ at in
    let equal : nat_cmp (number_at ranked k) x ≡ Equal = ap (λ n. nat_cmp n x) here ∙ same-order x in
    by_bool (ltb k i) ⊥
    (λ t. let less : nat_cmp (number_at ranked k) x ≡ Less = parts.0 k (0, 0, false) (omega arith) (below k i t) in let never : Less ≡ Equal = sym less ∙ equal in absurd cc)
    (λ f. let more : nat_cmp (number_at ranked k) x ≡ Greater = parts.1 k (0, 0, false) (above k i f) inside in let never : Greater ≡ Equal = sym more ∙ equal in absurd cc)
  where
    below : (a b : ℕ) → ltb a b ≡ true → a < b
    below a b t = grind (arith, nat_tests)

    above : (a b : ℕ) → ltb a b ≡ false → b ≤ a
    above a b f = grind (arith, nat_tests)
