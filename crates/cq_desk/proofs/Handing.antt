-- A desk whose publisher takes one entry more, or publishes.
use Rattle.std.proofs.Common.{◌≡◌, ℕ, ◌+◌, ◌<◌, List, [], ◌∷◌, ◌++◌, Option, length, take, drop, get_or, fold, refl, ap, sym, ◌∙◌, subst, arith}
use Rattle.std.proofs.lemmas.List.{append-nil, take_all}
use Rattle.cq_desk.specs.Desk.{IsInStep}
use Rattle.cq_desk.specs.History.{History, edits_of, grown, BeginsWith}
use Rattle.cq_desk.specs.Replies.{AreAccepted, journal_edits}
use Rattle.cq_desk.specs.declared.journal.Entry.{Entry}
use Rattle.cq_desk.proofs.Basing.{shown_short}
use Rattle.cq_desk.proofs.Histories.{tells_more, tells_all, rest_is, edits-grown, same_told, begins_itself, begins_on}

now_grown : {J : Type 0} (h k : History J) (p q : List J) → grown k q ≡ grown h p → q ≡ [] → k ≡ grown h p
now_grown h k p q together none = sym (ap (grown k) none) ∙ together

-- all entries are handed over, and published
pub all_told : {J : Type 0} (h k : History J) (p q js ks : List J) (n : ℕ) → grown k q ≡ grown h p → q ≡ [] → n ≡ length js → edits_of h ++ p ≡ take n js → js ≡ ks → edits_of k ≡ ks
all_told h k p q js ks n together none all told is = ap edits_of (now_grown h k p q together none) ∙ (edits-grown h p ∙ (tells_all (edits_of h) p n js all told ∙ is))

pub rest_told : {J : Type 0} (h g k : History J) (p q js ks : List J) (n : ℕ) → grown k q ≡ grown h p → q ≡ [] → n ≡ length js → edits_of h ++ p ≡ take n js → h ≡ g → js ≡ ks → k ≡ grown g (drop (length (edits_of g)) ks)
rest_told h g k p q js ks n together none all told was is =
    now_grown h k p q together none ∙ (ap (grown h) (rest_is (edits_of h) p js (tells_all (edits_of h) p n js all told))
    ∙ (ap (λ z. grown z (drop (length (edits_of z)) js)) was ∙ ap (λ z. grown g (drop (length (edits_of g)) z)) is))

module _ {E C W : Type 0} (after : C → E → C) (why : C → E → Option W) (working opening now : C) (h k shown shows : History (Entry E)) (p q js : List (Entry E)) (limit base handed published : ℕ) where
  -- the publisher refused an entry
  pub handed_none : now ≡ opening → k ≡ h → shows ≡ shown → q ≡ p → IsInStep after why working opening h shown p js limit base handed published → IsInStep after why working now k shows q js limit base handed published
  handed_none same history shows_same none was =
      record {
        works = was.works ∙ ap (λ o. fold after o (journal_edits js)) (sym same);
        told = ap (λ z. edits_of z ++ q) history ∙ (ap (λ z. edits_of h ++ z) none ∙ was.told);
        handed_within = was.handed_within;
        counts = was.counts ∙ ap (λ z. length (edits_of z)) (sym shows_same);
        front = subst (λ z. BeginsWith z shows) (sym history) (subst (BeginsWith h) (sym shows_same) was.front);
        accepted = subst (λ o. AreAccepted after why o (journal_edits js)) (sym same) was.accepted;
        within = was.within;
        based = was.based;
        numbers = was.numbers;
      }

  -- or took it
  pub handed_on : (entry : Entry E) (edit : E) → now ≡ opening → k ≡ h → shows ≡ shown → q ≡ p ++ record { author = entry.author; edit = edit } ∷ [] → edit ≡ entry.edit → entry ≡ get_or js handed entry → handed < length js → IsInStep after why working opening h shown p js limit base handed published → IsInStep after why working now k shows q js limit base (handed + 1) published
  handed_on entry edit same history shows_same more copied at short was =
      let F : E → List (Entry E) = λ e. p ++ record { author = entry.author; edit = e } ∷ [] in
      record {
        works = was.works ∙ ap (λ o. fold after o (journal_edits js)) (sym same);
        told = ap (λ z. edits_of z ++ q) history ∙ tells_more (edits_of h) p q handed js entry short at (more ∙ ap F copied) was.told;
        handed_within = omega (arith, short);
        counts = was.counts ∙ ap (λ z. length (edits_of z)) (sym shows_same);
        front = subst (λ z. BeginsWith z shows) (sym history) (subst (BeginsWith h) (sym shows_same) was.front);
        accepted = subst (λ o. AreAccepted after why o (journal_edits js)) (sym same) was.accepted;
        within = was.within;
        based = was.based;
        numbers = was.numbers;
      }

  -- it published all
  pub published_all : now ≡ opening → grown k q ≡ grown h p → q ≡ [] → shows ≡ k → handed ≡ length js → IsInStep after why working opening h shown p js limit base handed published → IsInStep after why working now k shows q js limit base handed handed
  published_all same together none shows_all all was =
      let whole : edits_of k ≡ js = all_told h k p q js js handed together none all was.told refl in
      record {
        works = was.works ∙ ap (λ o. fold after o (journal_edits js)) (sym same);
        told = ap (λ z. edits_of k ++ z) none ∙ (append-nil (edits_of k) ∙ (whole ∙ sym (take_all handed js (omega (arith, all)))));
        handed_within = was.handed_within;
        counts = all ∙ sym (ap (λ z. length (edits_of z)) shows_all ∙ ap length whole);
        front = subst (BeginsWith k) (sym shows_all) (begins_itself k);
        accepted = subst (λ o. AreAccepted after why o (journal_edits js)) (sym same) was.accepted;
        within = was.within;
        based = let b = was.based in let n = shown_short was in omega (arith, b, n, all);
        numbers = was.numbers;
      }

  -- or refused to show it
  pub published_none : now ≡ opening → grown k q ≡ grown h p → BeginsWith k h → shows ≡ shown → IsInStep after why working opening h shown p js limit base handed published → IsInStep after why working now k shows q js limit base handed published
  published_none same together begins shows_same was =
      record {
        works = was.works ∙ ap (λ o. fold after o (journal_edits js)) (sym same);
        told = same_told h k p q together ∙ was.told;
        handed_within = was.handed_within;
        counts = was.counts ∙ ap (λ z. length (edits_of z)) (sym shows_same);
        front = subst (BeginsWith k) (sym shows_same) (begins_on shown h k was.front begins);
        accepted = subst (λ o. AreAccepted after why o (journal_edits js)) (sym same) was.accepted;
        within = was.within;
        based = was.based;
        numbers = was.numbers;
      }
