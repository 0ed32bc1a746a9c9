-- Items that are written one after another, with a separator between two.
use Rattle.std.proofs.Common.{◌≡◌, ℕ, zero, suc, ◌+◌, ◌<◌, List, [], ◌∷◌, ◌++◌, length, map, take, get_or, refl, sym, ap, ◌∙◌, append_assoc, arith}
use Rattle.std.specs.List.{flat_map, join_by}
use Rattle.std.proofs.lemmas.List.{append-nil, flat_map_more}
use Rattle.std.proofs.Math.Seq.{take-suc}
use Rattle.cq_going.specs.Steps.Separators.{separated_by}

module _ {X : Type 0} (f : X → List ℕ) (separator : List ℕ) where
  join : List X → List ℕ
  join xs = join_by f separator xs

  behind : (xs : List X) (i : ℕ) (d : X) → i < length xs → (join (take i xs) ++ separated_by separator i) ++ f (get_or xs i d) ≡ join (take (suc i) xs)
  unfolding join
  behind [] i d lt = absurd (omega arith)
  behind (x ∷ xs) zero d lt = sym (append-nil (f x))
  behind (x ∷ xs) (suc i) d lt =
      append_assoc (f x ++ flat_map (λ y. separator ++ f y) (take i xs)) separator (f (get_or xs i d)) ∙ flat_map_more (λ y. separator ++ f y) (f x) (take i xs) (get_or xs i d)
      ∙ ap (λ l. f x ++ flat_map (λ y. separator ++ f y) l) (sym (take-suc xs i d (omega arith)))

  -- one item more after the bytes that were there at the start
  pub item_more : (xs : List X) (i : ℕ) (x : X) (start old between new : List ℕ) → i < length xs → x ≡ get_or xs i x → old ≡ start ++ join_by f separator (take i xs) → between ≡ old ++ separated_by separator i → new ≡ between ++ f x
      → new ≡ start ++ join_by f separator (take (i + 1) xs)
  unfolding join
  item_more xs i x start old between new lt at e b g =
      let next : suc i ≡ i + 1 = omega arith in
      let two : (start ++ join (take i xs)) ++ separated_by separator i ≡ start ++ (join (take i xs) ++ separated_by separator i) = append_assoc start (join (take i xs)) (separated_by separator i) in
      g ∙ ap (λ o. o ++ f x) (b ∙ ap (λ o. o ++ separated_by separator i) e ∙ two) ∙ append_assoc start (join (take i xs) ++ separated_by separator i) (f x) ∙ ap (λ y. start ++ ((join (take i xs) ++ separated_by separator i) ++ f y)) at
      ∙ ap (λ l. start ++ l) (behind xs i x lt ∙ ap (λ k. join (take k xs)) next)

separated_mapped : {X Y : Type 0} (f : Y → List ℕ) (h : X → Y) (separator : List ℕ) (xs : List X) → flat_map (λ x. separator ++ f (h x)) xs ≡ flat_map (λ y. separator ++ f y) (map h xs)
separated_mapped f h separator [] = refl
separated_mapped f h separator (x ∷ xs) = ap (λ (ys : List ℕ). (separator ++ f (h x)) ++ ys) (separated_mapped f h separator xs)

-- items that are made and joined
pub join_mapped : {X Y : Type 0} (f : Y → List ℕ) (h : X → Y) (separator : List ℕ) (xs : List X) → join_by (λ x. f (h x)) separator xs ≡ join_by f separator (map h xs)
join_mapped f h separator [] = refl
join_mapped f h separator (x ∷ xs) = ap (λ (ys : List ℕ). f (h x) ++ ys) (separated_mapped f h separator xs)

-- parts that are written one after another
pub four_parts : (o a b c d : List ℕ) → (((o ++ a) ++ b) ++ c) ++ d ≡ o ++ (((a ++ b) ++ c) ++ d)
four_parts o a b c d = simp append_assoc

pub five_parts : (o a b c d e : List ℕ) → ((((o ++ a) ++ b) ++ c) ++ d) ++ e ≡ o ++ ((((a ++ b) ++ c) ++ d) ++ e)
five_parts o a b c d e = simp append_assoc

pub three_parts : (o a b c : List ℕ) → ((o ++ a) ++ b) ++ c ≡ o ++ ((a ++ b) ++ c)
three_parts o a b c = simp append_assoc

pub eight_parts : (o a b c d e f h k : List ℕ) → (((((((o ++ a) ++ b) ++ c) ++ d) ++ e) ++ f) ++ h) ++ k ≡ o ++ (((((((a ++ b) ++ c) ++ d) ++ e) ++ f) ++ h) ++ k)
eight_parts o a b c d e f h k = simp append_assoc
