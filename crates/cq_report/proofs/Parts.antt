-- The pieces of a reply, joined.
use Rattle.std.proofs.Common.{◌≡◌, ◌==◌, ◌+◌, ◌++◌, ◌∷◌, ◌∙◌, ℕ, List, [], false, length, ap, sym, append-nil, append_assoc}
use Rattle.std.specs.Prelude.{codes, decimal}
use Rattle.cq_report.specs.declared.numbering.Numbering.TheVariants.{Numbered, Json}
use Rattle.cq_report.specs.Machine.{numbered}

-- a refusal as members, whose texts end with a quote
pub as_members : (front word before part lead number quote parts place : List ℕ) → before ++ (part ++ quote) ≡ quote ++ parts → lead ++ number ≡ quote ++ place
    → (front ++ word) ++ ((before ++ part) ++ (lead ++ (number ++ []))) ≡ front ++ (word ++ (quote ++ (parts ++ place)))
as_members front word before part lead number quote parts place is at =
    let grouped : (front ++ word) ++ ((before ++ part) ++ (quote ++ place)) ≡ front ++ (word ++ ((before ++ (part ++ quote)) ++ place)) = simp append_assoc in
    let split : front ++ (word ++ ((quote ++ parts) ++ place)) ≡ front ++ (word ++ (quote ++ (parts ++ place))) = simp append_assoc in
    ap (λ (l : List ℕ). (front ++ word) ++ ((before ++ part) ++ (lead ++ l))) (append-nil number)
    ∙ ap (λ (l : List ℕ). (front ++ word) ++ ((before ++ part) ++ l)) at
    ∙ grouped
    ∙ ap (λ (l : List ℕ). front ++ (word ++ (l ++ place))) is
    ∙ split

-- a reply in words that is not empty, behind its number
pub after_number : (before : ℕ) (bytes : List ℕ) → (length bytes == 0) ≡ false → (decimal (before + 1) ++ codes ": ") ++ (bytes ++ []) ≡ numbered Numbered before bytes
after_number before [] some = absurd (cc)
after_number before (b ∷ bs) some = ap (λ (l : List ℕ). (decimal (before + 1) ++ codes ": ") ++ l) (append-nil (b ∷ bs))

-- a number and a reply in an object
pub in_object : (before : ℕ) (bytes : List ℕ) → (codes "{\"line\":" ++ (decimal (before + 1) ++ [])) ++ (bytes ++ codes "}\n") ≡ numbered Json before bytes
in_object before bytes =
    ap (λ (number : List ℕ). (codes "{\"line\":" ++ number) ++ (bytes ++ codes "}\n")) (append-nil (decimal (before + 1)))
    ∙ sym (append_assoc (codes "{\"line\":" ++ decimal (before + 1)) bytes (codes "}\n"))
