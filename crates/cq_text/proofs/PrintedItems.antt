-- Items that are written one after another, with a separator between two.
use Rattle.std.proofs.Common.{◌≡◌, ℕ, zero, suc, ◌+◌, ◌<◌, List, [], ◌∷◌, ◌++◌, length, take, get_or, codes, sym, ap, ◌∙◌, append_assoc, arith}
use Rattle.std.specs.List.{flat_map, join_by}
use Rattle.std.proofs.lemmas.List.{append-nil, flat_map_more}
use Rattle.std.proofs.Math.Seq.{take-suc}
use Rattle.cq_text.specs.Steps.Separators.{separator_at}

module _ {X : Type 0} (f : X → List ℕ) where
  join : List X → List ℕ
  join xs = join_by f (codes ", ") xs

  behind : (xs : List X) (i : ℕ) (d : X) → i < length xs → (join (take i xs) ++ separator_at i) ++ f (get_or xs i d) ≡ join (take (suc i) xs)
  unfolding join
  behind [] i d lt = absurd (omega arith)
  behind (x ∷ xs) zero d lt = sym (append-nil (f x))
  behind (x ∷ xs) (suc i) d lt =
      append_assoc (f x ++ flat_map (λ y. codes ", " ++ f y) (take i xs)) (codes ", ") (f (get_or xs i d)) ∙ flat_map_more (λ y. codes ", " ++ f y) (f x) (take i xs) (get_or xs i d)
      ∙ ap (λ l. f x ++ flat_map (λ y. codes ", " ++ f y) l) (sym (take-suc xs i d (omega arith)))

  -- one item more after the bytes that were there at the start
  pub item_more : (xs : List X) (i : ℕ) (x : X) (start old between new : List ℕ) → i < length xs → x ≡ get_or xs i x → old ≡ start ++ join_by f (codes ", ") (take i xs) → between ≡ old ++ separator_at i → new ≡ between ++ f x
      → new ≡ start ++ join_by f (codes ", ") (take (i + 1) xs)
  unfolding join
  item_more xs i x start old between new lt at e b g =
      let next : suc i ≡ i + 1 = omega arith in
      let two : (start ++ join (take i xs)) ++ separator_at i ≡ start ++ (join (take i xs) ++ separator_at i) = append_assoc start (join (take i xs)) (separator_at i) in
      g ∙ ap (λ o. o ++ f x) (b ∙ ap (λ o. o ++ separator_at i) e ∙ two) ∙ append_assoc start (join (take i xs) ++ separator_at i) (f x) ∙ ap (λ y. start ++ ((join (take i xs) ++ separator_at i) ++ f y)) at
      ∙ ap (λ l. start ++ l) (behind xs i x lt ∙ ap (λ k. join (take k xs)) next)

-- parts that are written one after another
more : (o x y s : List ℕ) → s ≡ o ++ x → s ++ y ≡ o ++ (x ++ y)
more o x y s e = ap (λ z. z ++ y) e ∙ append_assoc o x y

pub three_parts : (o a b c : List ℕ) → ((o ++ a) ++ b) ++ c ≡ o ++ ((a ++ b) ++ c)
three_parts o a b c = more o (a ++ b) c ((o ++ a) ++ b) (append_assoc o a b)

pub four_parts : (o a b c d : List ℕ) → (((o ++ a) ++ b) ++ c) ++ d ≡ o ++ (((a ++ b) ++ c) ++ d)
four_parts o a b c d = more o ((a ++ b) ++ c) d (((o ++ a) ++ b) ++ c) (three_parts o a b c)

pub six_parts : (o a b c d e f : List ℕ) → (((((o ++ a) ++ b) ++ c) ++ d) ++ e) ++ f ≡ o ++ (((((a ++ b) ++ c) ++ d) ++ e) ++ f)
six_parts o a b c d e f =
    more o ((((a ++ b) ++ c) ++ d) ++ e) f (((((o ++ a) ++ b) ++ c) ++ d) ++ e) (more o (((a ++ b) ++ c) ++ d) e ((((o ++ a) ++ b) ++ c) ++ d) (four_parts o a b c d))
