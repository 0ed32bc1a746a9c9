-- Reading a quoted text, as a loop does.
use Rattle.std.proofs.Common.{◌≡◌, ℕ, zero, suc, ◌+◌, ◌-◌, ◌≤◌, Bool, true, false, cond, List, [], ◌∷◌, ◌++◌, length, take, drop, Option, Some, None, refl, sym, ap, ◌∙◌, append_assoc, arith}
use Rattle.std.specs.Prelude.{◌==◌, ◌||◌, ◌&&◌, not}
use Rattle.std.specs.List.{prefix_len}
use Rattle.std.proofs.lemmas.List.{append-nil, drop-drop}
use Rattle.cq_text.specs.Steps.Lexing.{is_verbatim, closes, escaped_byte}
use Rattle.cq_text.specs.Lexing.{content, behind}

-- what was read before, and what is still read
abbrev pub with_text : List ℕ → ℕ → Option (List ℕ × ℕ) → Option (List ℕ × ℕ)
with_text t n None = None
with_text t n (Some c) = Some (t ++ c.0, n + c.1)

pub with_nothing : (o : Option (List ℕ × ℕ)) → with_text [] 0 o ≡ o
with_nothing None = refl
with_nothing (Some c) = let e : 0 + c.1 ≡ c.1 = omega arith in ap (λ (k : ℕ). Some (c.0, k)) e

one_byte : (t : List ℕ) (n b : ℕ) (o : Option (List ℕ × ℕ)) → with_text t n (behind b 1 o) ≡ with_text (t ++ (b ∷ [])) (n + 1) o
one_byte t n b None = refl
one_byte t n b (Some c) = let e : n + (1 + c.1) ≡ n + 1 + c.1 = omega arith in ap (λ (k : ℕ). Some (t ++ (b ∷ c.0), k)) e ∙ ap (λ (l : List ℕ). Some (l, n + 1 + c.1)) (sym (append_assoc t (b ∷ []) c.0))

plain : (t : List ℕ) (i b : ℕ) (rest : List ℕ) → (b == 34) ≡ false → (b == 92) ≡ false → with_text t i (content (b ∷ rest)) ≡ with_text (t ++ (b ∷ [])) (i + 1) (content rest)
unfolding content
plain t i b [] e f = rw e refl
plain t i b (c ∷ rest) e f = rw (e, f) (one_byte t i b (content (c ∷ rest)))

neither : (p q : Bool) → (not p && not q) ≡ true → (p ≡ false) × (q ≡ false)
neither true q e = absurd cc
neither false true e = absurd cc
neither false false e = (refl, refl)

-- a run of bytes that stand for themselves is taken at once
abbrev run : List ℕ → ℕ
run bs = prefix_len is_verbatim bs

pub run_taken : (t : List ℕ) (i : ℕ) (bs : List ℕ) → with_text t i (content bs) ≡ with_text (t ++ take (run bs) bs) (i + run bs) (content (drop (run bs) bs))
run_taken t i [] = let e : i ≡ i + 0 = omega arith in ap (λ (k : ℕ). with_text t k (content [])) e ∙ ap (λ (l : List ℕ). with_text l (i + 0) (content [])) (sym (append-nil t))
run_taken t i (b ∷ bs) = by_case (is_verbatim b) refl (run_taken (t ++ (b ∷ [])) (i + 1) bs)
  where
    by_case : (v : Bool) → is_verbatim b ≡ v → with_text (t ++ (b ∷ [])) (i + 1) (content bs) ≡ with_text ((t ++ (b ∷ [])) ++ take (run bs) bs) (i + 1 + run bs) (content (drop (run bs) bs)) → with_text t i (content (b ∷ bs)) ≡ with_text (t ++ take (run (b ∷ bs)) (b ∷ bs)) (i + run (b ∷ bs)) (content (drop (run (b ∷ bs)) (b ∷ bs)))
    by_case true e ih =
        let one : 1 + run bs ≡ suc (run bs) = omega arith in
        let len : run (b ∷ bs) ≡ suc (run bs) = ap (λ (c : Bool). cond c (1 + run bs) 0) e ∙ one in
        let n = neither (b == 34) (b == 92) e in
        let sum : i + 1 + run bs ≡ i + suc (run bs) = omega arith in
        plain t i b bs n.0 n.1 ∙ ih
        ∙ ap (λ (l : List ℕ). with_text l (i + 1 + run bs) (content (drop (run bs) bs))) (append_assoc t (b ∷ []) (take (run bs) bs))
        ∙ ap (λ (k : ℕ). with_text (t ++ (b ∷ take (run bs) bs)) k (content (drop (run bs) bs))) sum
        ∙ ap (λ (k : ℕ). with_text (t ++ take k (b ∷ bs)) (i + k) (content (drop k (b ∷ bs)))) (sym len)
    by_case false e ih =
        let len : run (b ∷ bs) ≡ 0 = ap (λ (c : Bool). cond c (1 + run bs) 0) e in
        let sum : i ≡ i + 0 = omega arith in
        ap (λ (k : ℕ). with_text t k (content (b ∷ bs))) sum ∙ ap (λ (l : List ℕ). with_text l (i + 0) (content (b ∷ bs))) (sym (append-nil t))
        ∙ ap (λ (k : ℕ). with_text (t ++ take k (b ∷ bs)) (i + k) (content (drop k (b ∷ bs)))) (sym len)

-- after a run none begins
pub run_ends : (bs : List ℕ) → run (drop (run bs) bs) ≡ 0
run_ends [] = refl
run_ends (b ∷ bs) = by_case (is_verbatim b) refl (run_ends bs)
  where
    by_case : (v : Bool) → is_verbatim b ≡ v → run (drop (run bs) bs) ≡ 0 → run (drop (run (b ∷ bs)) (b ∷ bs)) ≡ 0
    by_case true e ih =
        let one : 1 + run bs ≡ suc (run bs) = omega arith in
        let len : run (b ∷ bs) ≡ suc (run bs) = ap (λ (c : Bool). cond c (1 + run bs) 0) e ∙ one in
        ap (λ (k : ℕ). run (drop k (b ∷ bs))) len ∙ ih
    by_case false e ih =
        let len : run (b ∷ bs) ≡ 0 = ap (λ (c : Bool). cond c (1 + run bs) 0) e in
        ap (λ (k : ℕ). run (drop k (b ∷ bs))) len ∙ len

-- in a text: the n bytes from i on are the run that stands there
pub behind_run : (t s : List ℕ) (i n : ℕ) (bs : List ℕ) (total : Option (List ℕ × ℕ)) → n ≡ run (drop i bs) → s ≡ t ++ take (i + n - i) (drop i bs) → with_text t i (content (drop i bs)) ≡ total → with_text s (i + n) (content (drop (i + n) bs)) ≡ total
behind_run t s i n bs total e f r =
    let size : i + n - i ≡ n = omega arith in
    let text : s ≡ t ++ take n (drop i bs) = f ∙ ap (λ (k : ℕ). t ++ take k (drop i bs)) size in
    let taken = run_taken t i (drop i bs) ∙ ap (λ (k : ℕ). with_text (t ++ take k (drop i bs)) (i + k) (content (drop k (drop i bs)))) (sym e) ∙ ap (λ (l : List ℕ). with_text (t ++ take n (drop i bs)) (i + n) (content l)) (drop-drop n i bs) in
    ap (λ (l : List ℕ). with_text l (i + n) (content (drop (i + n) bs))) text ∙ sym taken ∙ r

pub none_left : (i n : ℕ) (bs : List ℕ) → n ≡ run (drop i bs) → run (drop (i + n) bs) ≡ 0
none_left i n bs e = ap run (sym (drop-drop n i bs)) ∙ ap (λ (k : ℕ). run (drop k (drop i bs))) e ∙ run_ends (drop i bs)

pub quote_closes : (t : List ℕ) (i : ℕ) (bs : List ℕ) → closes bs ≡ true → with_text t i (content bs) ≡ Some (t, i + 1)
unfolding content
quote_closes t i [] e = absurd cc
quote_closes t i (b ∷ []) e = rw e (ap (λ (l : List ℕ). Some (l, i + 1)) (append-nil t))
quote_closes t i (b ∷ c ∷ bs) e = rw e (ap (λ (l : List ℕ). Some (l, i + 1)) (append-nil t))

pub escape_fits : (bs : List ℕ) (c : ℕ) → escaped_byte bs ≡ Some c → 2 ≤ length bs
escape_fits [] c e = absurd cc
escape_fits (b ∷ []) c e = absurd cc
escape_fits (b ∷ d ∷ bs) c e = omega arith

two_bytes : (t : List ℕ) (n b : ℕ) (o : Option (List ℕ × ℕ)) → with_text t n (behind b 2 o) ≡ with_text (t ++ (b ∷ [])) (n + 2) o
two_bytes t n b None = refl
two_bytes t n b (Some c) = let e : n + (2 + c.1) ≡ n + 2 + c.1 = omega arith in ap (λ (k : ℕ). Some (t ++ (b ∷ c.0), k)) e ∙ ap (λ (l : List ℕ). Some (l, n + 2 + c.1)) (sym (append_assoc t (b ∷ []) c.0))

pub escape_taken : (t : List ℕ) (i : ℕ) (bs : List ℕ) (c : ℕ) → closes bs ≡ false → escaped_byte bs ≡ Some c → with_text t i (content bs) ≡ with_text (t ++ (c ∷ [])) (i + 2) (content (drop 2 bs))
unfolding content
escape_taken t i [] c n e = absurd cc
escape_taken t i (b ∷ []) c n e = absurd cc
escape_taken t i (b ∷ d ∷ bs) c n e = rw n (by_case (b == 92) (d == 34) (d == 92) e)
  where
    by_case : (k p q : Bool) → cond (k && not (not p && not q)) (Some d) None ≡ Some c → with_text t i (cond k (cond (p || q) (behind d 2 (content bs)) None) (behind b 1 (content (d ∷ bs)))) ≡ with_text (t ++ (c ∷ [])) (i + 2) (content bs)
    by_case false p q h = absurd cc
    by_case true false false h = absurd cc
    by_case true false true h = let same : d ≡ c = cc in two_bytes t i d (content bs) ∙ ap (λ (x : ℕ). with_text (t ++ (x ∷ [])) (i + 2) (content bs)) same
    by_case true true q h = let same : d ≡ c = cc in two_bytes t i d (content bs) ∙ ap (λ (x : ℕ). with_text (t ++ (x ∷ [])) (i + 2) (content bs)) same

pub never_closed : (bs : List ℕ) → run bs ≡ 0 → closes bs ≡ false → escaped_byte bs ≡ None → content bs ≡ None
unfolding content
never_closed [] z n e = refl
never_closed (b ∷ []) z n e = rw n refl
never_closed (b ∷ d ∷ bs) z n e = rw n (by_case (b == 92) (d == 34) (d == 92) z e)
  where
    by_case : (k p q : Bool) → cond (not (b == 34) && not k) (1 + run (d ∷ bs)) 0 ≡ 0 → cond (k && not (not p && not q)) (Some d) None ≡ None → cond k (cond (p || q) (behind d 2 (content bs)) None) (behind b 1 (content (d ∷ bs))) ≡ None
    by_case false p q y h =
        let first : (not (b == 34) && true) ≡ true = ap (λ (x : Bool). not x && true) n in
        let more : 1 + run (d ∷ bs) ≡ 0 = sym (ap (λ (x : Bool). cond x (1 + run (d ∷ bs)) 0) first) ∙ y in
        let never : ⊥ = omega arith in absurd never
    by_case true false false y h = refl
    by_case true false true y h = absurd cc
    by_case true true q y h = absurd cc

-- what an escape stands for is its second byte
pub escaped_alone : (bs : List ℕ) (c : ℕ) → escaped_byte bs ≡ Some c → take 1 (drop 1 bs) ≡ c ∷ []
escaped_alone [] c e = absurd cc
escaped_alone (b ∷ []) c e = absurd cc
escaped_alone (b ∷ d ∷ bs) c e = by_case ((b == 92) && not (is_verbatim d)) e
  where
    by_case : (k : Bool) → cond k (Some d) None ≡ Some c → d ∷ [] ≡ c ∷ []
    by_case false h = absurd cc
    by_case true h = let same : d ≡ c = cc in ap (λ (x : ℕ). x ∷ []) same

-- the text that was put, and the bytes from at to seen, which are put next
abbrev pub with_pending : List ℕ → ℕ → ℕ → List ℕ → List ℕ
with_pending t at seen bs = t ++ take (seen - at) (drop at bs)

take-none : (k : ℕ) → take {A = ℕ} k [] ≡ []
take-none zero = refl
take-none (suc k) = refl

take-two : (m n : ℕ) (xs : List ℕ) → take (m + n) xs ≡ take m xs ++ take n (drop m xs)
take-two zero n xs = let e : 0 + n ≡ n = omega arith in ap (λ (k : ℕ). take k xs) e
take-two (suc m) n [] = take-none (suc m + n) ∙ sym (take-none n)
take-two (suc m) n (x ∷ xs) = let e : suc m + n ≡ suc (m + n) = omega arith in ap (λ (k : ℕ). take k (x ∷ xs)) e ∙ ap (λ (l : List ℕ). x ∷ l) (take-two m n xs)

-- putting all bytes up to the end of a run puts those that were pending, and then the run
pub pending_put : (t s : List ℕ) (at seen n : ℕ) (bs : List ℕ) → at ≤ seen → s ≡ t ++ take (seen + n - at) (drop at bs) → s ≡ with_pending t at seen bs ++ take (seen + n - seen) (drop seen bs)
pending_put t s at seen n bs le e =
    let sum : seen + n - at ≡ seen - at + n = omega arith in
    let size : n ≡ seen + n - seen = omega arith in
    let place : at + (seen - at) ≡ seen = omega arith in
    e ∙ ap (λ (k : ℕ). t ++ take k (drop at bs)) sum
    ∙ ap (λ (l : List ℕ). t ++ l) (take-two (seen - at) n (drop at bs))
    ∙ sym (append_assoc t (take (seen - at) (drop at bs)) (take n (drop (seen - at) (drop at bs))))
    ∙ ap (λ (l : List ℕ). with_pending t at seen bs ++ take n l) (drop-drop (seen - at) at bs ∙ ap (λ (k : ℕ). drop k bs) place)
    ∙ ap (λ (k : ℕ). with_pending t at seen bs ++ take k (drop seen bs)) size

-- after an escape its second byte is pending
pub escape_pending : (t : List ℕ) (end : ℕ) (bs : List ℕ) (c : ℕ) → escaped_byte (drop end bs) ≡ Some c → with_pending t (end + 1) (end + 2) bs ≡ t ++ (c ∷ [])
escape_pending t end bs c e =
    let one : end + 2 - (end + 1) ≡ 1 = omega arith in
    ap (λ (k : ℕ). t ++ take k (drop (end + 1) bs)) one
    ∙ ap (λ (l : List ℕ). t ++ take 1 l) (sym (drop-drop 1 end bs))
    ∙ ap (λ (l : List ℕ). t ++ l) (escaped_alone (drop end bs) c e)
