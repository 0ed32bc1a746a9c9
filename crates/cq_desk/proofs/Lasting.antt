-- What all edits that were ever entered leave, whatever checkpoints came.
use Rattle.std.proofs.Common.{◌≡◌, ℕ, zero, suc, ◌+◌, ◌≤◌, Bool, true, false, nat_le, if◌then◌else◌, List, [], ◌∷◌, ◌++◌, length, take, fold, Option, Ok, Err, refl, sym, subst, ap, ◌∙◌, append_assoc, arith, length-append}
use Rattle.std.proofs.lemmas.Bool.{leb-true}
use Rattle.std.proofs.lemmas.List.{append-nil, map-append, take_all, length-map}
use Rattle.std.proofs.lemmas.Grind.{fold-append}
use Rattle.cq_desk.specs.declared.journal.Entry.{Entry}
use Rattle.cq_desk.specs.declared.event.Event.{Event}
use Rattle.cq_desk.specs.declared.event.Event.TheVariants.{Enter, Publish, Look, Hear, Checkpoint}
use Rattle.cq_desk.specs.declared.event.Answer.TheVariants.{Replied, Checkpointed}
use Rattle.cq_desk.specs.declared.event.StepFault.TheVariants.{NoSession, Unpublished}
use Rattle.cq_desk.specs.declared.reply.Reply.{Reply}
use Rattle.cq_desk.specs.declared.reply.Reply.TheVariants.{Entered, JournalFull, Not}
use Rattle.cq_desk.specs.Replies.{journal_edits}
use Rattle.cq_desk.proofs.Looking.{either}
use Rattle.cq_desk.specs.Machine.{MachineRecord, opening_machine, entry_count, published_count, working_content, published_content, moved, unless_refused, reply_to, answer_to, machine_after, machine_run, entered_by, entered}

-- all of the one list, and as many of the other as are more
take-append-more : {A : Type 0} (xs ys : List A) (n k : ℕ) → k ≡ length xs + n → take k (xs ++ ys) ≡ xs ++ take n ys
take-append-more [] ys n k is = let same : k ≡ n = omega (arith, is) in ap (λ m. take m ys) same
take-append-more (x ∷ xs) ys n k is = let same : k ≡ suc (length xs + n) = omega (arith, is) in ap (λ m. take m (x ∷ xs ++ ys)) same ∙ ap (λ zs. x ∷ zs) (take-append-more xs ys n (length xs + n) refl)

take-map : {E : Type 0} (n : ℕ) (js : List (Entry E)) → take n (journal_edits js) ≡ journal_edits (take n js)
take-map zero js = refl
take-map (suc n) [] = refl
take-map (suc n) (j ∷ js) = ap (λ zs. j.edit ∷ zs) (take-map n js)

module _ {E C W : Type 0} (after : C → E → C) (why : C → E → Option W) (first : C) where
  -- these edits were entered over the first content: what came before the journal left its opening content
  pub record IsKept (m : MachineRecord C E) (es : List E) : Type 0 where
    pub past : List E
    pub all : es ≡ past ++ journal_edits m.journal
    pub opens : m.opening ≡ fold after first past
    pub counts : length past ≡ m.base
    pub front : m.published ≤ length m.journal

  -- where the answer refuses, nothing is entered
  none : {m : MachineRecord C E} {es : List E} → IsKept m es → IsKept m (es ++ [])
  none {m} {es} k = subst (IsKept m) (sym (append-nil es)) k

  more : (m : MachineRecord C E) (es : List E) (author : ℕ) (edit : E) → IsKept m es → IsKept (moved after m (Enter author edit)) (es ++ edit ∷ [])
  more m es author edit k =
      let entry : Entry E = record { author = author; edit = edit } in
      let edits : journal_edits (m.journal ++ entry ∷ []) ≡ journal_edits m.journal ++ edit ∷ [] = map-append (λ e. e.edit) m.journal (entry ∷ []) in
      let n = length-append m.journal (entry ∷ []) in let f = k.front in record {
        past = k.past;
        all = ap (λ z. z ++ edit ∷ []) k.all ∙ (append_assoc k.past (journal_edits m.journal) (edit ∷ []) ∙ ap (λ z. k.past ++ z) (sym edits));
        opens = k.opens;
        counts = k.counts;
        front = omega (arith, n, f);
      }

  replied : (m : MachineRecord C E) (es : List E) (author : ℕ) (edit : E) (r : Reply W) → IsKept m es → IsKept (unless_refused {C = C} {E = E} {W = W} (Ok (Replied r)) m (moved after m (Enter author edit))) (es ++ entered_by after why (Enter author edit) (Ok (Replied r)))
  replied m es author edit (Entered n) k = more m es author edit k
  replied m es author edit JournalFull k = none k
  replied m es author edit (Not w) k = none k

  in_session : (m : MachineRecord C E) (es : List E) (author : ℕ) (edit : E) (b : Bool) (r : Reply W) → IsKept m es → IsKept (unless_refused {C = C} {E = E} {W = W} (if b then Err NoSession else Ok (Replied r)) m (moved after m (Enter author edit))) (es ++ entered_by after why (Enter author edit) (if b then Err NoSession else Ok (Replied r)))
  in_session m es author edit true r k = none k
  in_session m es author edit false r k = replied m es author edit r k

  -- what was entered is the content before the journal, and then the journal
  works : (m : MachineRecord C E) (es : List E) → IsKept m es → working_content after m ≡ fold after first es
  works m es k = ap (λ c. fold after c (journal_edits m.journal)) k.opens ∙ (sym (fold-append after first k.past (journal_edits m.journal)) ∙ ap (fold after first) (sym k.all))

  counts_all : (m : MachineRecord C E) (es : List E) → IsKept m es → length es ≡ entry_count m
  counts_all m es k = let n = ap length k.all in let two = length-append k.past (journal_edits m.journal) in let js = length-map m.journal (λ j. j.edit) in let base = k.counts in omega (arith, n, two, js, base)

  renewed : (m : MachineRecord C E) (es : List E) → length m.journal ≤ m.published → IsKept m es → IsKept (moved after m Checkpoint) es
  renewed m es all k = let front = k.front in record {
    past = es;
    all = sym (append-nil es);
    opens = ap (λ zs. fold after m.opening (journal_edits zs)) (take_all m.published m.journal all) ∙ works m es k;
    counts = counts_all m es k;
    front = omega arith;
  }

  checked : (m : MachineRecord C E) (es : List E) (b : Bool) (count : ℕ) → (b ≡ true → length m.journal ≤ m.published) → IsKept m es → IsKept (unless_refused {C = C} {E = E} {W = W} (if b then Ok (Checkpointed count) else Err Unpublished) m (moved after m Checkpoint)) es
  checked m es true count all k = renewed m es (all refl) k
  checked m es false count all k = k

  kept_after : (m : MachineRecord C E) (e : Event E) (es : List E) → IsKept m es → IsKept (machine_after after why m e) (es ++ entered_by after why e (answer_to after why m e))
  kept_after m (Enter author edit) es k = in_session m es author edit (nat_le (length m.seen) author) (reply_to after why m edit) k
  kept_after m Publish es k = none record { past = k.past; all = k.all; opens = k.opens; counts = k.counts; front = omega arith }
  kept_after m (Look session) es k =
      none (either (λ n. IsKept n es) (answer_to after why m (Look session)) m (moved after m (Look session)) k record { past = k.past; all = k.all; opens = k.opens; counts = k.counts; front = k.front })
  kept_after m (Hear session count) es k =
      none (either (λ n. IsKept n es) (answer_to after why m (Hear session count)) m (moved after m (Hear session count)) k record { past = k.past; all = k.all; opens = k.opens; counts = k.counts; front = k.front })
  kept_after m Checkpoint es k = none (checked m es (nat_le (length m.journal) m.published) (entry_count m) (leb-true (length m.journal) m.published) k)

  kept_run : (m : MachineRecord C E) (events : List (Event E)) (es : List E) → IsKept m es → IsKept (machine_run after why m events) (es ++ entered after why m events)
  kept_run m [] es k = none k
  kept_run m (e ∷ events) es k =
      subst (IsKept (machine_run after why m (e ∷ events))) (append_assoc es (entered_by after why e (answer_to after why m e)) (entered after why (machine_after after why m e) events))
      (kept_run (machine_after after why m e) events (es ++ entered_by after why e (answer_to after why m e)) (kept_after m e es k))

  -- after any events
  pub kept_from : (limit sessions : ℕ) (events : List (Event E)) → IsKept (machine_run after why (opening_machine first limit sessions) events) (entered after why (opening_machine first limit sessions) events)
  kept_from limit sessions events = kept_run (opening_machine first limit sessions) events [] record { past = []; all = refl; opens = refl; counts = refl; front = omega arith }

  pub works_from : (limit sessions : ℕ) (events : List (Event E)) → working_content after (machine_run after why (opening_machine first limit sessions) events) ≡ fold after first (entered after why (opening_machine first limit sessions) events)
  works_from limit sessions events = works (machine_run after why (opening_machine first limit sessions) events) (entered after why (opening_machine first limit sessions) events) (kept_from limit sessions events)

  pub counts_from : (limit sessions : ℕ) (events : List (Event E)) → entry_count (machine_run after why (opening_machine first limit sessions) events) ≡ length (entered after why (opening_machine first limit sessions) events)
  counts_from limit sessions events = sym (counts_all (machine_run after why (opening_machine first limit sessions) events) (entered after why (opening_machine first limit sessions) events) (kept_from limit sessions events))

  -- a front of the journal lies behind all that came before
  shows : (m : MachineRecord C E) (es : List E) → IsKept m es → published_content after m ≡ fold after first (take (published_count m) es)
  shows m es k =
      let es_is : take (published_count m) es ≡ k.past ++ journal_edits (take m.published m.journal) =
      ap (take (published_count m)) k.all ∙ (take-append-more k.past (journal_edits m.journal) m.published (published_count m) (ap (λ n. n + m.published) (sym k.counts)) ∙ ap (λ z. k.past ++ z) (take-map m.published m.journal)) in
      ap (λ c. fold after c (journal_edits (take m.published m.journal))) k.opens ∙ (sym (fold-append after first k.past (journal_edits (take m.published m.journal))) ∙ ap (fold after first) (sym es_is))

  pub shows_from : (limit sessions : ℕ) (events : List (Event E)) → published_content after (machine_run after why (opening_machine first limit sessions) events) ≡ fold after first (take (published_count (machine_run after why (opening_machine first limit sessions) events)) (entered after why (opening_machine first limit sessions) events))
  shows_from limit sessions events = shows (machine_run after why (opening_machine first limit sessions) events) (entered after why (opening_machine first limit sessions) events) (kept_from limit sessions events)
