-- Lines told part by part.
use Rattle.std.proofs.Common.{◌≡◌, ◌==◌, ◌∙◌, ℕ, false, List, [], ◌∷◌, ◌++◌, length, map, refl, sym, ap, append_assoc}
use Rattle.std.specs.Prelude.{codes, decimal, if◌then◌else◌}
use Rattle.std.specs.List.{flat_map, join_by}
use Rattle.cq_cli.specs.Noted.{variables_line}
use Rattle.cq_cli.specs.Views.{told_line}

pub four_put : (a b c d : List ℕ) → a ++ (b ++ (c ++ d)) ≡ a ++ b ++ c ++ d
four_put a b c d = ap (λ (l : List ℕ). a ++ l) (sym (append_assoc b c d)) ∙ sym (append_assoc a (b ++ c) d) ∙ ap (λ (l : List ℕ). l ++ d) (sym (append_assoc a b c))

-- words that there are, and lines behind them
pub told_some : (origin words lines : List ℕ) → (length words == 0) ≡ false → codes "board: " ++ (origin ++ (words ++ (codes "\n" ++ lines))) ≡ told_line origin words ++ lines
told_some origin [] lines some = cc
told_some origin (b ∷ bs) lines some = four_put (codes "board: ") origin (b ∷ bs) (codes "\n" ++ lines) ∙ sym (append_assoc (codes "board: " ++ origin ++ (b ∷ bs)) (codes "\n") lines)

-- pieces that are read first, and then joined
module _ {X : Type 0} (read : X → List ℕ) (separator : List ℕ) where
  fused : (xs : List X) → flat_map (λ (y : List ℕ). separator ++ y) (map read xs) ≡ flat_map (λ (x : X). separator ++ read x) xs
  fused [] = refl
  fused (x ∷ xs) = ap (λ (l : List ℕ). (separator ++ read x) ++ l) (fused xs)

  pub join_map : (xs : List X) → join_by (λ v. v) separator (map read xs) ≡ join_by read separator xs
  join_map [] = refl
  join_map (x ∷ xs) = ap (λ (l : List ℕ). read x ++ l) (fused xs)

-- how many values there are, and for which variables
pub variables_put : (name : List ℕ) (n : ℕ) (variables : List (List ℕ)) → n ≡ length variables
    → codes "board: " ++ (name ++ (codes " has " ++ (decimal n ++ (codes " " ++ ((if n == 1 then codes "value: (" else codes "values: (") ++ (join_by (λ v. v) (codes ", ") variables ++ codes ")\n")))))) ≡ variables_line name variables
variables_put name n variables count =
    let word = if length variables == 1 then codes "value: (" else codes "values: (" in
    let rest = join_by (λ v. v) (codes ", ") variables ++ codes ")\n" in
    ap (λ (k : ℕ). codes "board: " ++ (name ++ (codes " has " ++ (decimal k ++ (codes " " ++ ((if k == 1 then codes "value: (" else codes "values: (") ++ rest)))))) count
    ∙ ap (λ (l : List ℕ). codes "board: " ++ (name ++ (codes " has " ++ l))) (sym (append_assoc (decimal (length variables)) (codes " ") (word ++ rest)) ∙ sym (append_assoc (decimal (length variables) ++ codes " ") word rest))
