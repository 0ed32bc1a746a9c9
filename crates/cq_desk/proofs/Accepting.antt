-- Edits that were accepted one after another.
use mathlib.Core.List.{IsPrefix}
use Rattle.std.proofs.Common.{◌≡◌, ℕ, ◌+◌, ◌<◌, List, [], ◌∷◌, ◌++◌, Option, None, length, take, fold, sym, ap, ◌∙◌, subst, arith, length-append}
use Rattle.std.proofs.lemmas.List.{map-append, take-append-le}
use Rattle.std.proofs.lemmas.Grind.{fold-append}
use Rattle.cq_desk.specs.History.{History}
use Rattle.cq_desk.specs.Replies.{AreAccepted, journal_edits}
use Rattle.cq_desk.specs.Desk.{IsInStep}
use Rattle.cq_desk.specs.Machine.{most_entries}
use Rattle.cq_desk.specs.declared.journal.Entry.{Entry}

module _ {E C W : Type 0} (after : C → E → C) (why : C → E → Option W) where
  -- one more is accepted
  pub accepted_more : (o : C) (es : List E) (e : E) → AreAccepted after why o es → why (fold after o es) e ≡ None → AreAccepted after why o (es ++ e ∷ [])
  accepted_more o [] e all one = (one, tt)
  accepted_more o (x ∷ es) e all one = (all.0, accepted_more (after o x) es e all.1 one)

  accepted_before : (o : C) (es more : List E) → AreAccepted after why o (es ++ more) → AreAccepted after why o es
  accepted_before o [] more all = tt
  accepted_before o (e ∷ es) more all = (all.0, accepted_before (after o e) es more all.1)

  -- those of a front are accepted
  pub accepted_front : (o : C) (xs ys : List E) → IsPrefix xs ys → AreAccepted after why o ys → AreAccepted after why o xs
  accepted_front o xs ys p all = accepted_before o xs p.0 (subst (AreAccepted after why o) (sym p.1) all)

  -- an entry more
  pub entered : (working now opening : C) (history shown : History (Entry E)) (pending : List (Entry E)) (js ks : List (Entry E)) (entry : Entry E) (limit base handed published : ℕ) → IsInStep after why working opening history shown pending js limit base handed published
      → ks ≡ js ++ entry ∷ [] → length js < base + limit → length js < most_entries → why working entry.edit ≡ None → now ≡ after working entry.edit → IsInStep after why now opening history shown pending ks limit base handed published
  entered working now opening history shown pending js ks entry limit base handed published p is room left none next =
      let es = journal_edits js in
      let edits : journal_edits ks ≡ es ++ entry.edit ∷ [] = ap journal_edits is ∙ map-append (λ e. e.edit) js (entry ∷ []) in
      let count : length ks ≡ length js + 1 = ap length is ∙ length-append js (entry ∷ []) in
      record {
        works = next ∙ (ap (λ c. after c entry.edit) p.works ∙ (sym (fold-append after opening es (entry.edit ∷ [])) ∙ ap (fold after opening) (sym edits)));
        told = p.told ∙ (sym (take-append-le handed js (entry ∷ []) p.handed_within) ∙ ap (take handed) (sym is));
        handed_within = let n = p.handed_within in omega (arith, n, count);
        counts = p.counts;
        front = p.front;
        accepted = subst (AreAccepted after why opening) (sym edits) (accepted_more opening es entry.edit p.accepted (subst (λ c. why c entry.edit ≡ None) p.works none));
        within = omega (arith, room, count);
        based = p.based;
        numbers = omega (arith, left, count);
      }
