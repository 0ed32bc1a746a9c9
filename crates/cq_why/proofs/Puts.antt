-- What is put piece by piece, and what was found.
use Rattle.std.proofs.Common.{◌≡◌, ℕ, Bool, true, false, List, [], ◌∷◌, ◌++◌, length, map, refl, sym, ap, ◌∙◌, append_assoc, arith}
use Rattle.std.proofs.lemmas.List.{nil_from_length}
use Rattle.std.specs.Prelude.{◌==◌, ◌&&◌, ◌||◌, if◌then◌else◌, Result, Ok, Err, OnOk, codes}
use Rattle.std.specs.Result.{is_ok}
use Rattle.std.specs.List.{list_any}
use Rattle.std.specs.Str.{bytes_eq}
use Rattle.cq_report.proofs.CallerLemmas.{none_of}
use Rattle.cq_text.specs.declared.form.Form.{Form}
use Rattle.cq_why.specs.Why.{found, found_words, is_lower, one_of, limit_words, expected_words}

module _ {T E : Type 0} where
  -- the last of two or three pieces may be refused
  pub put_two : (page page1 page2 one two : List T) (r : Result (Unit {0}) E) → page1 ≡ page ++ one → OnOk r (page2 ≡ page1 ++ two) → OnOk r (page2 ≡ page ++ (one ++ two))
  put_two page page1 page2 one two (Ok done) h k = k ∙ ap (λ (z : List T). z ++ two) h ∙ append_assoc page one two
  put_two page page1 page2 one two (Err fault) h k = tt

  pub put_three : (page page1 page2 page3 one two three : List T) (r : Result (Unit {0}) E) → page1 ≡ page ++ one → page2 ≡ page1 ++ two → OnOk r (page3 ≡ page2 ++ three)
      → OnOk r (page3 ≡ page ++ (one ++ (two ++ three)))
  put_three page page1 page2 page3 one two three (Ok done) h k l =
      l ∙ ap (λ (z : List T). z ++ three) (k ∙ ap (λ (z : List T). z ++ two) h) ∙ append_assoc (page ++ one) two three ∙ append_assoc page one (two ++ three)
  put_three page page1 page2 page3 one two three (Err fault) h k l = tt

-- what a call leaves, where it was not refused
pub put_by : {T E : Type 0} (page page1 page2 : List T) (r : Result (Unit {0}) E) → page1 ≡ (if is_ok r then page2 else page) → OnOk r (page1 ≡ page2)
put_by page page1 page2 (Ok done) h = h
put_by page page1 page2 (Err fault) h = tt

-- three pieces
pub put_pieces : {T : Type 0} (page page1 page2 page3 one two three : List T) → page1 ≡ page ++ one → page2 ≡ page1 ++ two → page3 ≡ page2 ++ three → page3 ≡ page ++ (one ++ (two ++ three))
put_pieces {T} page page1 page2 page3 one two three h k l =
    l ∙ ap (λ (z : List T). z ++ three) (k ∙ ap (λ (z : List T). z ++ two) h) ∙ append_assoc (page ++ one) two three ∙ append_assoc page one (two ++ three)

any_read : {W : Type 0} (p : List ℕ → Bool) (read : W → List ℕ) (words : List W) → list_any (λ word. p (read word)) words ≡ list_any p (map read words)
any_read p read [] = refl
any_read p read (word ∷ words) = ap (λ (rest : Bool). p (read word) || rest) (any_read p read words)

-- a variable where a constant may stand
pub found_variable : {W : Type 0} (read : W → List ℕ) (words : List W) (rest : List ℕ) → (is_lower rest && list_any (λ word. bytes_eq (codes "a \"text\"") (read word)) words) ≡ true
    → found rest ++ codes " is a variable" ≡ found_words (map read words) rest
found_variable read words [] is = absurd (let never : false ≡ true = is in cc)
found_variable read words (byte ∷ bytes) is =
    let all : (is_lower (byte ∷ bytes) && list_any (bytes_eq (codes "a \"text\"")) (map read words)) ≡ true = ap (λ (b : Bool). is_lower (byte ∷ bytes) && b) (sym (any_read (bytes_eq (codes "a \"text\"")) read words)) ∙ is in
    rw all refl

-- anything else
pub found_other : {W : Type 0} (read : W → List ℕ) (words : List W) (rest : List ℕ) → (length rest == 0) ≡ false → (is_lower rest && list_any (λ word. bytes_eq (codes "a \"text\"") (read word)) words) ≡ false
    → codes "found " ++ found rest ≡ found_words (map read words) rest
found_other read words [] some other = absurd (let never : true ≡ false = some in cc)
found_other read words (byte ∷ bytes) some other =
    let all : (is_lower (byte ∷ bytes) && list_any (bytes_eq (codes "a \"text\"")) (map read words)) ≡ false = ap (λ (b : Bool). is_lower (byte ∷ bytes) && b) (sym (any_read (bytes_eq (codes "a \"text\"")) read words)) ∙ other in
    rw all refl

pub found_nothing : (words : List (List ℕ)) (rest : List ℕ) → (length rest == 0) ≡ true → codes "the line ends" ≡ found_words words rest
found_nothing words rest none = rw (none_of rest none) refl

-- no token may stand there
pub expects_nothing : {W : Type 0} (form : Form) (read : W → List ℕ) (words : List W) → (length words == 0) ≡ true → codes "nothing may follow: " ++ limit_words form ≡ expected_words form (map read words)
expects_nothing form read words none = let zero : length words ≡ 0 = grind arith in rw (nil_from_length words zero) refl

-- one may
pub expects_some : {W : Type 0} (form : Form) (read : W → List ℕ) (words : List W) → (length words == 0) ≡ false → codes "expected " ++ one_of (map read words) ≡ expected_words form (map read words)
expects_some form read [] some = absurd (let never : true ≡ false = some in cc)
expects_some form read (word ∷ words) some = refl
