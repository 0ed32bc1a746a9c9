-- The entries before the last checkpoint, and those since.
use mathlib.Core.List.{IsPrefix}
use Rattle.std.proofs.Common.{◌≡◌, ℕ, ◌+◌, ◌≤◌, List, [], ◌∷◌, ◌++◌, Option, length, take, drop, get_or, fold, refl, ap, sym, ◌∙◌, subst, append_assoc, arith, length-append, length-take}
use Rattle.std.proofs.lemmas.List.{append-nil, take_all, take-append-le, length-take-le, get_or-append-add}
use Rattle.std.proofs.Math.Seq.{drop-append_seam}
use Rattle.cq_desk.specs.Desk.{DeskRecord, IsInStep, whole_journal}
use Rattle.cq_desk.specs.History.{History, edits_of, BeginsWith}
use Rattle.cq_desk.specs.Replies.{AreAccepted, journal_edits}
use Rattle.cq_desk.specs.declared.journal.Entry.{Entry}
use Rattle.cq_desk.proofs.Histories.{told_length}

edits_both : {J : Type 0} (h t : History J) → edits_of (h ++ t) ≡ edits_of h ++ edits_of t
edits_both [] t = refl
edits_both (p ∷ h) t = ap (λ z. p ++ z) (edits_both h t) ∙ sym (append_assoc p (edits_of h) (edits_of t))

-- a longer history has the entries of the shorter one first
edits_begin : {J : Type 0} (k h : History J) → BeginsWith k h → IsPrefix (edits_of h) (edits_of k)
edits_begin k h p = (edits_of p.0, sym (edits_both h p.0) ∙ ap edits_of p.1)

nothing_left : {J : Type 0} (xs : List J) → length xs ≡ 0 → xs ≡ []
nothing_left [] n = refl
nothing_left (x ∷ xs) n = absurd (omega (arith, n))

prefix_short : {J : Type 0} (xs ys : List J) → IsPrefix xs ys → length xs ≤ length ys
prefix_short xs ys p = omega (arith, length-append xs p.0, ap length p.1)

pub front_short : {J : Type 0} (k h : History J) → BeginsWith k h → length (edits_of h) ≤ length (edits_of k)
front_short k h p = prefix_short (edits_of h) (edits_of k) (edits_begin k h p)

module _ {E : Type 0} (base : ℕ) (h : History (Entry E)) where
  pub whole_length : (js : List (Entry E)) → base ≤ length (edits_of h) → length (whole_journal base h js) ≡ base + length js
  whole_length js based = length-append (take base (edits_of h)) js ∙ ap (λ n. n + length js) (length-take-le base (edits_of h) based)

  pub whole_rest : (js : List (Entry E)) → base ≤ length (edits_of h) → js ≡ drop base (whole_journal base h js)
  whole_rest js based = sym (drop-append_seam (take base (edits_of h)) js) ∙ ap (λ n. drop n (whole_journal base h js)) (length-take-le base (edits_of h) based)

  pub whole_at : (js : List (Entry E)) (n : ℕ) (d : Entry E) → base ≤ length (edits_of h) → get_or (whole_journal base h js) (base + n) d ≡ get_or js n d
  whole_at js n d based = ap (λ b. get_or (whole_journal base h js) (b + n) d) (sym (length-take-le base (edits_of h) based)) ∙ get_or-append-add (take base (edits_of h)) js n d

  -- one entry more
  pub whole_more : (js ks : List (Entry E)) (e : Entry E) → ks ≡ js ++ e ∷ [] → whole_journal base h ks ≡ whole_journal base h js ++ e ∷ []
  whole_more js ks e more = ap (whole_journal base h) more ∙ sym (append_assoc (take base (edits_of h)) js (e ∷ []))

  -- the same entries after more publications
  pub whole_on : (k : History (Entry E)) (js : List (Entry E)) → BeginsWith k h → base ≤ length (edits_of h) → whole_journal base k js ≡ whole_journal base h js
  whole_on k js more based =
      let p = edits_begin k h more in
      ap (λ z. z ++ js) (ap (take base) (sym p.1) ∙ take-append-le base (edits_of h) p.0 based)

pub whole_as : {E : Type 0} {b c : ℕ} {h k : History (Entry E)} {js ks : List (Entry E)} → b ≡ c → h ≡ k → js ≡ ks → whole_journal b h js ≡ whole_journal c k ks
whole_as {E} {b} {c} {h} {k} {js} {ks} base history entries = ap (λ z. whole_journal z h js) base ∙ (ap (λ z. whole_journal c z js) history ∙ ap (whole_journal c k) entries)

module _ {E C W : Type 0} {after : C → E → C} {why : C → E → Option W} {working opening : C} {h shown : History (Entry E)} {p js : List (Entry E)} {limit base handed published : ℕ} where
  -- what is published is among the publications
  pub shown_within : IsInStep after why working opening h shown p js limit base handed published → published ≤ length (edits_of h)
  shown_within was = let n = front_short h shown was.front in let c = was.counts in omega (arith, n, c)

  pub based_within : IsInStep after why working opening h shown p js limit base handed published → base ≤ length (edits_of h)
  based_within was = let n = shown_within was in let b = was.based in omega (arith, n, b)

  -- and in the journal
  pub shown_short : IsInStep after why working opening h shown p js limit base handed published → published ≤ length js
  shown_short was =
      let n = shown_within was in let t = told_length (edits_of h) p (take handed js) was.told in let m = length-take handed js in
      omega (arith, n, t, m)

  -- where all is published, the publications have all entries
  pub all_shown : length js ≤ published → IsInStep after why working opening h shown p js limit base handed published → edits_of h ≡ js
  all_shown all was =
      let n = shown_within was in let t = told_length (edits_of h) p (take handed js) was.told in let m = length-take handed js in let w = was.handed_within in
      let none : p ≡ [] = nothing_left p (omega (arith, all, n, t, m)) in
      sym (append-nil (edits_of h)) ∙ ap (λ z. edits_of h ++ z) (sym none) ∙ was.told ∙ take_all handed js (omega (arith, all, n, t, m))

  pub shown_all : length js ≤ published → IsInStep after why working opening h shown p js limit base handed published → edits_of shown ≡ js
  shown_all all was =
      let f = edits_begin h shown was.front in let is = all_shown all was in let c = was.counts in
      let none : f.0 ≡ [] = nothing_left f.0 (omega (arith, all, c, length-append (edits_of shown) f.0, ap length (f.1 ∙ is))) in
      sym (append-nil (edits_of shown)) ∙ ap (λ z. edits_of shown ++ z) (sym none) ∙ f.1 ∙ is

  -- what its type says, with the same entries and count
  pub step_as : (ks : List (Entry E)) (more : ℕ) → ks ≡ js → more ≡ handed → IsInStep after why working opening h shown p js limit base handed published → IsInStep after why working opening h shown p ks limit base more published
  step_as ks more is same was = subst (λ z. IsInStep after why working opening h shown p z limit base more published) (sym is) (subst (λ n. IsInStep after why working opening h shown p js limit base n published) (sym same) was)

  -- a checkpoint
  pub checked : (ks : List (Entry E)) (count more done : ℕ) → length js ≤ published → IsInStep after why working opening h shown p js limit base handed published → ks ≡ js → count ≡ length js → more ≡ count → done ≡ count
      → IsInStep after why working opening h shown p ks limit count more done
  checked ks count more done all was is counted handed_all done_all =
      let short = shown_short was in let t = told_length (edits_of h) p (take handed js) was.told in let m = length-take handed js in let n = shown_within was in
      let j = ap length is in
      record {
        works = was.works ∙ ap (λ z. fold after opening (journal_edits z)) (sym is);
        told = was.told ∙ (take_all handed js (omega (arith, all, n, t, m)) ∙ (sym is ∙ sym (take_all more ks (omega (arith, j, counted, handed_all)))));
        handed_within = omega (arith, j, counted, handed_all);
        counts = done_all ∙ counted ∙ sym (ap length (shown_all all was));
        front = was.front;
        accepted = subst (λ z. AreAccepted after why opening (journal_edits z)) (sym is) was.accepted;
        within = omega (arith, j, counted);
        based = omega (arith, done_all);
        numbers = let k = was.numbers in omega (arith, j, k);
      }

-- how many there are in all
pub whole_count : {E C W : Type 0} {after : C → E → C} {why : C → E → Option W} {working opening : C} {h shown : History (Entry E)} {p : List (Entry E)} {limit base handed published : ℕ} (js : List (Entry E))
    → IsInStep after why working opening h shown p (whole_journal base h js) limit base handed published → length (whole_journal base h js) ≡ base + length js
whole_count {E} {C} {W} {after} {why} {working} {opening} {h} {shown} {p} {limit} {base} js was = whole_length base h js (based_within was)

-- no entries since a checkpoint after all of these
pub whole_new : {E : Type 0} (count : ℕ) (h : History (Entry E)) (js ks : List (Entry E)) → ks ≡ [] → count ≡ length js → edits_of h ≡ js → whole_journal count h ks ≡ js
whole_new count h js ks none counted is = ap (whole_journal count h) none ∙ (append-nil (take count (edits_of h)) ∙ (take_all count (edits_of h) (omega (arith, counted, ap length is)) ∙ is))

-- what contracts see of a desk after a checkpoint
pub desk_checked : {P E : Type 0} (publisher : P) (js ks : List (Entry E)) (limit base count : ℕ) (a : DeskRecord P E) → ks ≡ js → count ≡ length js → record { publisher = publisher; journal = js; limit = limit; base = base } ≡ a → record { publisher = publisher; journal = ks; limit = limit; base = count } ≡ record a { base = length a.journal }
desk_checked {P} {E} publisher js ks limit base count a is counted view =
    let F : List (Entry E) → ℕ → DeskRecord P E = λ z b. record { publisher = publisher; journal = z; limit = limit; base = b } in
    let G : DeskRecord P E → DeskRecord P E = λ v. record v { base = length v.journal } in
    ap (λ z. F z count) is ∙ (ap (F js) counted ∙ ap G view)
