-- A line that is put in pieces, of which the last is its end.
use Rattle.std.proofs.Common.{◌≡◌, ℕ, List, ◌++◌, ap, ◌∙◌, append_assoc, codes, is_ok, if◌then◌else◌}
use Rattle.std.specs.Prelude.{Result, Ok, Err, OnOk}

-- the front, the text and the end of a line, where the end may be refused
pub ended : {E : Type 0} (r : Result (Unit {0}) E) (page one two new front text : List ℕ) → one ≡ page ++ front → two ≡ one ++ text → new ≡ (if is_ok r then two ++ codes "\n" else two)
    → OnOk r (new ≡ page ++ ((front ++ text) ++ codes "\n"))
ended (Ok done) page one two new front text first second is =
    is ∙ ap (λ (l : List ℕ). l ++ codes "\n") (second ∙ ap (λ (l : List ℕ). l ++ text) first ∙ append_assoc page front text) ∙ append_assoc page (front ++ text) (codes "\n")
ended (Err fault) page one two new front text first second is = tt

-- the same of a text and the end of its line
pub ended_text : {E : Type 0} (r : Result (Unit {0}) E) (page one new text : List ℕ) → one ≡ page ++ text → new ≡ (if is_ok r then one ++ codes "\n" else one) → OnOk r (new ≡ page ++ (text ++ codes "\n"))
ended_text (Ok done) page one new text put is = is ∙ ap (λ (l : List ℕ). l ++ codes "\n") put ∙ append_assoc page text (codes "\n")
ended_text (Err fault) page one new text put is = tt
