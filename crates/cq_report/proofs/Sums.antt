-- Texts put part by part.
use Rattle.std.proofs.Common.{◌≡◌, ◌<◌, ◌+◌, ◌++◌, ◌∙◌, ℕ, List, drop, get_or, length, sym, ap, append_assoc}
use Rattle.std.specs.List.{flat_map}
use Rattle.std.proofs.lemmas.List.{get_or_default}
use Rattle.cq_board.proofs.CallerLemmas.{pieces_at, read_at}

-- the piece at a place, and those after it
pub piece_at : {X : Type 0} (f : X → List ℕ) (xs : List X) (i : ℕ) (d : X) → i < length xs → flat_map f (drop i xs) ≡ f (get_or xs i d) ++ flat_map f (drop (i + 1) xs)
piece_at f xs i d low = pieces_at f xs i (get_or xs i d) (read_at xs i (get_or xs i d) low (get_or_default xs i d (get_or xs i d) low))

pub three_put : (page a b c last : List ℕ) → page ++ (a ++ (b ++ c)) ++ last ≡ page ++ (a ++ b ++ c ++ last)
three_put page a b c last = append_assoc page (a ++ (b ++ c)) last ∙ ap (λ (l : List ℕ). page ++ (l ++ last)) (sym (append_assoc a b c))

pub two_put : (page first a b : List ℕ) → page ++ first ++ (a ++ b) ≡ page ++ (first ++ a ++ b)
two_put page first a b = append_assoc page first (a ++ b) ∙ ap (λ (l : List ℕ). page ++ l) (sym (append_assoc first a b))

pub five_put : (page a s b c : List ℕ) → page ++ a ++ s ++ b ++ s ++ c ≡ page ++ (a ++ s ++ b ++ s ++ c)
five_put page a s b c =
    ap (λ (l : List ℕ). l ++ b ++ s ++ c) (append_assoc page a s)
    ∙ ap (λ (l : List ℕ). l ++ s ++ c) (append_assoc page (a ++ s) b)
    ∙ ap (λ (l : List ℕ). l ++ c) (append_assoc page (a ++ s ++ b) s)
    ∙ append_assoc page (a ++ s ++ b ++ s) c

pub four_put : (page a b c d : List ℕ) → page ++ a ++ b ++ c ++ d ≡ page ++ (a ++ b ++ c ++ d)
four_put page a b c d =
    ap (λ (l : List ℕ). l ++ c ++ d) (append_assoc page a b)
    ∙ ap (λ (l : List ℕ). l ++ d) (append_assoc page (a ++ b) c)
    ∙ append_assoc page (a ++ b ++ c) d
