-- What the lengths of a list of entries cut it into.
use Rattle.std.proofs.Common.{◌≡◌, ℕ, ◌<◌, ◌≤◌, List, [], ◌∷◌, ◌++◌, length, take, drop, refl, sym, ap, ◌∙◌, subst, fold, arith, length-append}
use Rattle.std.proofs.lemmas.List.{take-append-le, take_all, take-append-drop, drop_all, length-drop}
use Rattle.cq_desk.specs.History.{History, edits_of, grown}
use Rattle.cq_desk.specs.Plain.{cut_at, last_length, AreWithin, IsPublished}
use Rattle.cq_desk.specs.Replies.{journal_edits}
use Rattle.cq_desk.specs.declared.journal.Entry.{Entry}
use Rattle.cq_desk.proofs.Histories.{edits-snoc}

-- One entry more cuts nothing anew.
pub cut-append : {E : Type 0} (start : ℕ) (lengths : List ℕ) (es more : List E) → AreWithin (length es) lengths → cut_at start lengths (es ++ more) ≡ cut_at start lengths es
cut-append start [] es more w = refl
cut-append start (end ∷ lengths) es more w =
    ap (λ z. drop start z ∷ cut_at end lengths (es ++ more)) (take-append-le end es more w.0) ∙ ap (λ z. drop start (take end es) ∷ z) (cut-append end lengths es more w.1)

-- One length more cuts one publication off.
pub cut-snoc : {E : Type 0} (start : ℕ) (lengths : List ℕ) (end : ℕ) (es : List E) → cut_at start (lengths ++ end ∷ []) es ≡ cut_at start lengths es ++ drop (last_length start lengths) (take end es) ∷ []
cut-snoc start [] end es = refl
cut-snoc start (n ∷ lengths) end es = ap (λ z. drop start (take n es) ∷ z) (cut-snoc n lengths end es)

pub last-snoc : (start : ℕ) (lengths : List ℕ) (end : ℕ) → last_length start (lengths ++ end ∷ []) ≡ end
last-snoc start [] end = refl
last-snoc start (n ∷ lengths) end = last-snoc n lengths end

pub within-snoc : (most : ℕ) (lengths : List ℕ) (n : ℕ) → AreWithin most lengths → n ≤ most → AreWithin most (lengths ++ n ∷ [])
within-snoc most [] n w l = (l, tt)
within-snoc most (m ∷ lengths) n w l = (w.0, within-snoc most lengths n w.1 l)

pub within-more : (most more : ℕ) (lengths : List ℕ) → AreWithin most lengths → most ≤ more → AreWithin more lengths
within-more most more [] w l = tt
within-more most more (m ∷ lengths) w l = let a = w.0 in (omega (arith, a, l), within-more most more lengths w.1 l)

pub grown-some : {E : Type 0} (history : History E) (es : List E) → 0 < length es → grown history es ≡ history ++ es ∷ []
grown-some history [] l = absurd (omega (arith, l))
grown-some history (e ∷ es) l = refl

-- What was pending is cut off as one publication.
pub cut_off : {E : Type 0} (es : List E) (lengths longer : List ℕ) (published k : ℕ) → longer ≡ lengths ++ k ∷ [] → last_length 0 lengths ≡ published → k ≡ length es → cut_at 0 longer es ≡ cut_at 0 lengths es ++ drop published es ∷ []
cut_off es lengths longer published k is last all =
    ap (λ z. cut_at 0 z es) is ∙ (cut-snoc 0 lengths k es ∙ (ap (λ z. cut_at 0 lengths es ++ drop z (take k es) ∷ []) last
    ∙ ap (λ z. cut_at 0 lengths es ++ drop published z ∷ []) (take_all k es (omega (arith, all)))))

-- That is what one publish makes of the history.
pub cut_grown : {E : Type 0} (es : List E) (lengths longer : List ℕ) (published k : ℕ) → longer ≡ lengths ++ k ∷ [] → last_length 0 lengths ≡ published → k ≡ length es → published < length es → grown (cut_at 0 longer es) (drop k es) ≡ grown (cut_at 0 lengths es) (drop published es)
cut_grown es lengths longer published k is last all short =
    let n = length-drop published es in
    ap (grown (cut_at 0 longer es)) (drop_all k es (omega (arith, all)))
    ∙ (cut_off es lengths longer published k is last all ∙ sym (grown-some (cut_at 0 lengths es) (drop published es) (omega (arith, n, short))))

module _ {C E : Type 0} (after : C → E → C) where
  -- One entry more is pending.
  pub appended : (opening shown next : C) (es fs : List (Entry E)) (e : Entry E) (lengths : List ℕ) (published taken : ℕ) → fs ≡ es ++ e ∷ [] → IsPublished after opening shown next es lengths published taken → IsPublished after opening shown next fs lengths published taken
  appended opening shown next es fs e lengths published taken is inv =
      let more = length-append es (e ∷ []) in let p = inv.published_within in let t = inv.taken_within in
      subst (λ z. IsPublished after opening shown next z lengths published taken) (sym is) record {
        shows = inv.shows ∙ ap (λ z. fold after opening (journal_edits z)) (sym (take-append-le published es (e ∷ []) p));
        follows = inv.follows ∙ ap (λ z. fold after opening (journal_edits z)) (sym (take-append-le taken es (e ∷ []) t));
        cuts = ap edits_of (cut-append 0 lengths es (e ∷ []) inv.lengths_within) ∙ (inv.cuts ∙ sym (take-append-le published es (e ∷ []) p));
        last = inv.last;
        published_within = omega (arith, more, p);
        taken_within = omega (arith, more, t);
        lengths_within = within-more (length es) (length (es ++ e ∷ [])) lengths inv.lengths_within (omega (arith, more));
      }

  -- The two states are changed over, where the next one has taken the edits of all entries in.
  pub changed_over : (opening shown next new old : C) (es : List (Entry E)) (lengths longer : List ℕ) (published taken k : ℕ) → longer ≡ lengths ++ k ∷ [] → k ≡ length es → taken ≡ length es → new ≡ next → old ≡ shown → IsPublished after opening shown next es lengths published taken → IsPublished after opening new old es longer k published
  changed_over opening shown next new old es lengths longer published taken k is all done now was inv =
      let whole = take_all k es (omega (arith, all)) in
      record {
        shows = now ∙ (inv.follows ∙ ap (λ z. fold after opening (journal_edits (take z es))) (done ∙ sym all));
        follows = was ∙ inv.shows;
        cuts = ap edits_of (cut_off es lengths longer published k is inv.last all) ∙ (edits-snoc (cut_at 0 lengths es) (drop published es)
            ∙ (ap (λ z. z ++ drop published es) inv.cuts ∙ (take-append-drop published es ∙ sym whole)));
        last = ap (last_length 0) is ∙ last-snoc 0 lengths k;
        published_within = omega (arith, all);
        taken_within = inv.published_within;
        lengths_within = subst (AreWithin (length es)) (sym is) (within-snoc (length es) lengths k inv.lengths_within (omega (arith, all)));
      }
