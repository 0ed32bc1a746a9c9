-- What is put piece by piece.
use Rattle.std.proofs.Common.{◌≡◌, ℕ, List, [], ◌++◌, sym, ap, ◌∙◌, append_assoc, append-nil}
use Rattle.std.specs.Prelude.{Result, Ok, Err, OnOk}

module _ {T : Type 0} where
  pub put_on : (page page1 piece rest rest1 all : List T) → rest ≡ piece ++ rest1 → page ++ rest ≡ all → page1 ≡ page ++ piece → page1 ++ rest1 ≡ all
  put_on page page1 piece rest rest1 all cut inv is =
      ap (λ (z : List T). z ++ rest1) is ∙ append_assoc page piece rest1 ∙ ap (λ (z : List T). page ++ z) (sym cut) ∙ inv

  pub put_both : (page page1 page2 one two : List T) → page1 ≡ page ++ one → page2 ≡ page1 ++ two → page2 ≡ page ++ (one ++ two)
  put_both page page1 page2 one two h k = k ∙ ap (λ (z : List T). z ++ two) h ∙ append_assoc page one two

  -- a piece after another, where the last may be refused
  pub put_then : {E : Type 0} (page page1 page2 one two : List T) (r : Result (Unit {0}) E) → page1 ≡ page ++ one → OnOk r (page2 ≡ page1 ++ two) → OnOk r (page2 ≡ page ++ (one ++ two))
  put_then page page1 page2 one two (Ok done) h k = put_both page page1 page2 one two h k
  put_then page page1 page2 one two (Err fault) h k = tt

  -- nothing is left to be put
  pub put_end : (page rest all : List T) → rest ≡ [] → page ++ rest ≡ all → page ≡ all
  put_end page rest all none inv = sym (append-nil page) ∙ ap (λ (z : List T). page ++ z) (sym none) ∙ inv

  -- the last piece is left to be put
  pub put_last : {E : Type 0} (page page1 rest all : List T) (r : Result (Unit {0}) E) → page ++ rest ≡ all → OnOk r (page1 ≡ page ++ rest) → OnOk r (page1 ≡ all)
  put_last page page1 rest all (Ok done) inv is = is ∙ inv
  put_last page page1 rest all (Err fault) inv is = tt

-- texts joined one way are joined the other
pub joined : (a b c d : List ℕ) → a ++ (b ++ (c ++ d)) ≡ a ++ b ++ c ++ d
joined a b c d = simp append_assoc

pub joined_more : (a b c d e : List ℕ) → a ++ (b ++ (c ++ (d ++ e))) ≡ a ++ b ++ c ++ d ++ e
joined_more a b c d e = simp append_assoc
