-- Lines cut at LF, and the front of a line that is kept.
use Rattle.std.proofs.Common.{◌≡◌, ◌==◌, ℕ, zero, suc, ◌+◌, ◌-◌, ◌<◌, ◌≤◌, List, [], ◌∷◌, ◌++◌, length, take, drop, get_or, refl, sym, ap, subst, ◌∙◌, ◌⊎◌, inl, inr, false, cond, Some, None, append_assoc, append-nil, take-append-drop, drop-cons, arith, lit<}
use Rattle.std.specs.Prelude.{min, nat_lt, position}
use Rattle.std.specs.List.{position_or_len}
use Rattle.std.proofs.Math.Seq.{take-append-add}
use Rattle.std.proofs.lemmas.List.{take-append-le, take_all, take_min, length-take, length-take-le}
use Rattle.std.proofs.lemmas.List.Quantifiers.{position-Some}
use Rattle.std.proofs.lemmas.List.Sums.{fails_before_first}
use Rattle.std.proofs.lemmas.Bool.{cases_lt, eqb-true}
use Rattle.cq_report.specs.Lines.{lines_of, whole_lines, before_first, before_whole}
use Rattle.cq_report.specs.declared.line_buffer.TheConstants.{KEPT}
use Rattle.cq_report.specs.Live.{line_room}
use Rattle.cq_report.specs.Steps.Kept.{kept}
use Rattle.cq_report.specs.Steps.Serving.{HaveNoEnd, ended}
use Rattle.cq_report.specs.Lines.{HasNoEnd}

-- ---- the stored part of a line

take_room : (k n : ℕ) (l more : List ℕ) → length l ≤ k → n ≡ min (k - length l) (length more) → l ++ take n more ≡ take k (l ++ more)
take_room k n l more h e =
    let room : length l + (k - length l) ≡ k = omega arith in
    ap (λ (i : ℕ). l ++ take i more) e ∙ ap (λ (m : List ℕ). l ++ m) (take_min (k - length l) more)
    ∙ sym (take-append-add l more (k - length l)) ∙ ap (λ (i : ℕ). take i (l ++ more)) room

take_again_by : (k : ℕ) (l more : List ℕ) → (length l < k) ⊎ (k ≤ length l) → take k (take k l ++ more) ≡ take k (l ++ more)
take_again_by k l more (inr h) =
    let e = length-take-le k l h in
    take-append-le k (take k l) more (omega (arith, e)) ∙ take_all k (take k l) (omega (arith, e)) ∙ sym (take-append-le k l more h)
take_again_by k l more (inl h) = ap (λ (m : List ℕ). take k (m ++ more)) (take_all k l (omega (arith, h)))

take_none : (k : ℕ) (l : List ℕ) → 0 < k → length (take k l) ≡ 0 → length l ≡ 0
take_none k l h e = omega (arith, length-take k l, e, h)

-- as much more is kept as there is room for
pub kept_more : (n : ℕ) (l more : List ℕ) → length l ≤ KEPT → n ≡ min (KEPT - length l) (length more) → l ++ take n more ≡ kept (l ++ more)
unfolding kept
kept_more n l more h e = take_room KEPT n l more h e

-- bytes after what is kept, and bytes after all
pub kept_again : (l more : List ℕ) → kept (kept l ++ more) ≡ kept (l ++ more)
unfolding kept
kept_again l more = take_again_by KEPT l more (cases_lt (length l) KEPT)

-- something is kept of a line that is not empty
pub kept_none : (l : List ℕ) → length (kept l) ≡ 0 → length l ≡ 0
unfolding kept
kept_none l e = take_none KEPT l (lit< tt) e

pub kept_some : (l : List ℕ) → 0 < length (kept l) → 0 < length l
unfolding kept
kept_some l h = omega (arith, length-take KEPT l, h)

-- no more is kept than there is
pub kept_short : (l : List ℕ) → length (kept l) ≤ length l
unfolding kept
kept_short l = omega (arith, length-take KEPT l)

-- what is kept of more bytes than there is room for are more
pub kept_long : (l : List ℕ) → line_room < length l → line_room < length (kept l)
unfolding kept
kept_long l h = let most : line_room < KEPT = omega arith in omega (arith, length-take KEPT l, h, most)

-- what is kept is kept
pub kept_kept : (l : List ℕ) → kept (kept l) ≡ kept l
kept_kept l = ap kept (sym (append-nil (kept l))) ∙ kept_again l [] ∙ ap kept (append-nil l)

pub kept_nil : kept [] ≡ []
unfolding kept
kept_nil = refl

-- ---- lines

-- the first line of bytes that have an LF
pub lines_of_ended : (line rest : List ℕ) → HasNoEnd line → lines_of (line ++ (10 ∷ rest)) ≡ line ∷ lines_of rest
lines_of_ended [] rest h = refl
lines_of_ended (b ∷ line) rest h = rw h.0 (ap (before_first b) (lines_of_ended line rest h.1))

pub lines_of_all_ended : (lines : List (List ℕ)) (rest : List ℕ) → HaveNoEnd lines → lines_of (ended lines ++ rest) ≡ lines ++ lines_of rest
lines_of_all_ended [] rest h = refl
lines_of_all_ended (line ∷ lines) rest h =
    ap lines_of (append_assoc line (10 ∷ ended lines) rest) ∙ lines_of_ended line (ended lines ++ rest) h.0 ∙ ap (λ (ls : List (List ℕ)). line ∷ ls) (lines_of_all_ended lines rest h.1)

-- bytes without an LF are one line, or none
pub lines_of_open : (line : List ℕ) → HasNoEnd line → (0 < length line) → lines_of line ≡ line ∷ []
lines_of_open [] h n = absurd (omega (arith, n))
lines_of_open (b ∷ []) h n = rw h.0 refl
lines_of_open (b ∷ c ∷ line) h n = rw h.0 (ap (before_first b) (lines_of_open (c ∷ line) h.1 (omega arith)))

pub whole_lines_ended : (line rest : List ℕ) → HasNoEnd line → whole_lines (line ++ (10 ∷ rest)) ≡ line ∷ whole_lines rest
whole_lines_ended [] rest h = refl
whole_lines_ended (b ∷ line) rest h = rw h.0 (ap (before_whole b) (whole_lines_ended line rest h.1))

pub whole_lines_open : (line : List ℕ) → HasNoEnd line → whole_lines line ≡ []
whole_lines_open [] h = refl
whole_lines_open (b ∷ line) h = rw h.0 (ap (before_whole b) (whole_lines_open line h.1))

pub whole_lines_all_ended : (lines : List (List ℕ)) (rest : List ℕ) → HaveNoEnd lines → HasNoEnd rest → whole_lines (ended lines ++ rest) ≡ lines
whole_lines_all_ended [] rest h o = whole_lines_open rest o
whole_lines_all_ended (line ∷ lines) rest h o =
    ap whole_lines (append_assoc line (10 ∷ ended lines) rest) ∙ whole_lines_ended line (ended lines ++ rest) h.0 ∙ ap (λ (ls : List (List ℕ)). line ∷ ls) (whole_lines_all_ended lines rest h.1 o)

-- ---- the first LF

HasNoEnd-take : (n : ℕ) (bytes : List ℕ) → n ≤ length bytes → ((k : ℕ) → k < n → (get_or bytes k 0 == 10) ≡ false) → HasNoEnd (take n bytes)
HasNoEnd-take zero bytes low h = tt
HasNoEnd-take (suc n) [] low h = tt
HasNoEnd-take (suc n) (b ∷ bytes) low h = (h 0 (omega arith), HasNoEnd-take n bytes (omega arith) (λ k l. h (suc k) (omega arith)))

-- no LF stands before the first one
pub HasNoEnd-before : (bytes : List ℕ) (n : ℕ) → position (λ b. b == 10) bytes ≡ Some n → HasNoEnd (take n bytes)
HasNoEnd-before bytes n found =
    let first = position-Some (λ b. b == 10) bytes n 0 found in
    let low : n < length bytes = first.0 in
    HasNoEnd-take n bytes (omega arith) first.2

-- the bytes before the first LF, the LF, and the bytes after it
pub cut_first : (bytes : List ℕ) (n : ℕ) → position (λ b. b == 10) bytes ≡ Some n → bytes ≡ take n bytes ++ (10 ∷ drop 1 (drop n bytes))
cut_first bytes n found =
    let first = position-Some (λ b. b == 10) bytes n 0 found in
    let is : get_or bytes n 0 ≡ 10 = eqb-true (get_or bytes n 0) 10 first.1 in
    let ahead : drop n bytes ≡ get_or bytes n 0 ∷ drop (suc n) bytes = drop-cons bytes n 0 first.0 in
    sym (take-append-drop n bytes) ∙ ap (λ (l : List ℕ). take n bytes ++ l) (rw ahead (ap (λ (b : ℕ). b ∷ drop (suc n) bytes) is))

-- no LF stands in bytes in which none is found
pub HasNoEnd-none : (bytes : List ℕ) → position (λ b. b == 10) bytes ≡ None → HasNoEnd bytes
HasNoEnd-none bytes none =
    let all = past_all (position_or_len (λ b. b == 10) bytes) (length bytes) none in
    subst HasNoEnd (take_all (length bytes) bytes (omega arith)) (HasNoEnd-take (length bytes) bytes (omega arith) (λ k h. fails_before_first (λ b. b == 10) bytes k 0 (omega (arith, all))))
  where
    past_all : (p n : ℕ) → cond (nat_lt p n) (Some p) None ≡ None → n ≤ p
    past_all p n h = grind arith

-- ---- more bytes, one more line

pub HasNoEnd-append : (line more : List ℕ) → HasNoEnd line → HasNoEnd more → HasNoEnd (line ++ more)
HasNoEnd-append [] more h k = k
HasNoEnd-append (b ∷ line) more h k = (h.0, HasNoEnd-append line more h.1 k)

pub HaveNoEnd-more : (lines : List (List ℕ)) (line : List ℕ) → HaveNoEnd lines → HasNoEnd line → HaveNoEnd (lines ++ line ∷ [])
HaveNoEnd-more [] line h o = (o, tt)
HaveNoEnd-more (l ∷ lines) line h o = (h.0, HaveNoEnd-more lines line h.1 o)

pub ended-more : (lines : List (List ℕ)) (line : List ℕ) → ended lines ++ (line ++ (10 ∷ [])) ≡ ended (lines ++ line ∷ [])
ended-more [] line = refl
ended-more (l ∷ lines) line = append_assoc l (10 ∷ ended lines) (line ++ (10 ∷ [])) ∙ ap (λ (m : List ℕ). l ++ (10 ∷ m)) (ended-more lines line)
