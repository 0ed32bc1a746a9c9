-- What a publish of a list of edits leaves.
use mathlib.Core.List.{IsPrefix}
use Rattle.std.proofs.Common.{◌≡◌, ℕ, ◌+◌, ◌-◌, ◌≤◌, true, false, nat_le, if◌then◌else◌, Option, Some, None, IfNone, IfSome, MatchOption, List, [], ◌∷◌, ◌++◌, length, take, fold, refl, ap, sym, ◌∙◌, subst, arith, append_assoc, length-append}
use Rattle.std.proofs.lemmas.List.{append-nil, length-map, map-append}
use Rattle.std.proofs.Math.Seq.{take-append_seam}
use Rattle.cq_desk.specs.History.{History, edits_of, BeginsWith, StandsLast}
use Rattle.cq_desk.specs.Replies.{MatchEnd, journal_edits, accepted, admitted, entries_by, reply_at, replies_at}
use Rattle.cq_desk.specs.declared.journal.Entry.{Entry}
use Rattle.cq_desk.specs.declared.reply.Reply.{Reply}
use Rattle.cq_desk.specs.declared.reply.Reply.TheVariants.{Entered, JournalFull, Not}
use Rattle.cq_desk.specs.declared.reply.End.{End}
use Rattle.cq_desk.specs.declared.reply.End.TheVariants.{Published, Stopped, Unpublished}
use Rattle.cq_room.specs.Receipts.{AreNumbered, IsPassed, entered_before}
use Rattle.cq_room.specs.Steps.Receipts.{IsPublished}

admitted_number : {W : Type 0} (entries n : ℕ) (w : Option W) → admitted entries w ≡ Entered n → n ≡ entries + 1
admitted_number entries n (Some reason) is = absurd (cc is)
admitted_number entries n None is = cc is

-- an edit that enters gets the number after those before
pub reply_number : {E C W : Type 0} (after : C → E → C) (why : C → E → Option W) (o : C) (limit n : ℕ) (js : List E) (e : E) → reply_at after why o limit js e ≡ Entered n → n ≡ length js + 1
reply_number {E} {C} {W} after why o limit n js e is =
    elim (nat_le limit (length js)) as (λ b. (if b then JournalFull else admitted (length js) (why (fold after o js) e)) ≡ Entered n → n ≡ length js + 1) [ true ↦ λ p. absurd (cc p) | false ↦ λ p. admitted_number (length js) n (why (fold after o js) e) p ] is

module _ {E C W : Type 0} (after : C → E → C) (why : C → E → Option W) (o : C) (limit : ℕ) (author : ℕ) where
  -- the numbers are those at which the entries of the accepted edits stand
  pub numbered : (js : List (Entry E)) (asked : List E) (rs : List (Reply W)) → rs ≡ replies_at after why o limit (journal_edits js) (take (length rs) asked) → AreNumbered (js ++ entries_by author (accepted asked rs)) author asked rs
  numbered js [] rs is = tt
  numbered js (e ∷ asked) [] is = tt
  numbered js (e ∷ asked) (Entered n ∷ rs) is =
      let es = journal_edits js in let entry : Entry E = record { author = author; edit = e } in
      let one : Entered n ≡ reply_at after why o limit es e = cc is in
      let rest : rs ≡ replies_at after why o limit (es ++ accepted (e ∷ []) (reply_at after why o limit es e ∷ [])) (take (length rs) asked) = cc is in
      let next : rs ≡ replies_at after why o limit (es ++ e ∷ []) (take (length rs) asked) = rest ∙ ap (λ r. replies_at after why o limit (es ++ accepted (e ∷ []) (r ∷ [])) (take (length rs) asked)) (sym one) in
      let more : rs ≡ replies_at after why o limit (journal_edits (js ++ entry ∷ [])) (take (length rs) asked) = next ∙ ap (λ z. replies_at after why o limit z (take (length rs) asked)) (sym (map-append (λ j. j.edit) js (entry ∷ []))) in
      let P : List (Entry E) → Type 0 = λ all. AreNumbered all author asked rs in (
        (js, entries_by author (accepted asked rs), refl, reply_number after why o limit n es e (sym one) ∙ ap (λ k. k + 1) (length-map js (λ j. j.edit))),
        subst P (append_assoc js (entry ∷ []) (entries_by author (accepted asked rs))) (numbered (js ++ entry ∷ []) asked rs more),
      )
  numbered js (e ∷ asked) (JournalFull ∷ rs) is =
      let es = journal_edits js in
      let one : JournalFull ≡ reply_at after why o limit es e = cc is in
      let rest : rs ≡ replies_at after why o limit (es ++ accepted (e ∷ []) (reply_at after why o limit es e ∷ [])) (take (length rs) asked) = cc is in
      let more : rs ≡ replies_at after why o limit (es ++ []) (take (length rs) asked) = rest ∙ ap (λ r. replies_at after why o limit (es ++ accepted (e ∷ []) (r ∷ [])) (take (length rs) asked)) (sym one) in
      numbered js asked rs (more ∙ ap (λ z. replies_at after why o limit z (take (length rs) asked)) (append-nil es))
  numbered js (e ∷ asked) (Not w ∷ rs) is =
      let es = journal_edits js in
      let one : Not w ≡ reply_at after why o limit es e = cc is in
      let rest : rs ≡ replies_at after why o limit (es ++ accepted (e ∷ []) (reply_at after why o limit es e ∷ [])) (take (length rs) asked) = cc is in
      let more : rs ≡ replies_at after why o limit (es ++ []) (take (length rs) asked) = rest ∙ ap (λ r. replies_at after why o limit (es ++ accepted (e ∷ []) (r ∷ [])) (take (length rs) asked)) (sym one) in
      numbered js asked rs (more ∙ ap (λ z. replies_at after why o limit z (take (length rs) asked)) (append-nil es))

pub published_is : {E W : Type 0} (author : ℕ) (js ks : List (Entry E)) (asked : List E) (rs : List (Reply W)) (n : ℕ) (shown f : History (Entry E)) → ks ≡ js ++ entries_by author (accepted asked rs) → AreNumbered (js ++ entries_by author (accepted asked rs)) author asked rs
    → n ≡ length ks → edits_of shown ≡ ks → StandsLast (entries_by author (accepted asked rs)) shown → f ≡ shown → IsPublished js author asked rs n f
published_is author js ks asked rs n shown f taken right count whole last is =
    let all : edits_of f ≡ ks = ap edits_of is ∙ whole in
    record {
      ends = all ∙ taken;
      last = subst (StandsLast (entries_by author (accepted asked rs))) (sym is) last;
      counts = count ∙ sym (ap length all);
      numbered = subst (λ es. AreNumbered es author asked rs) (sym (all ∙ taken)) right;
    }

-- what is answered at each end
pub answered : {E W : Type 0} (author : ℕ) (js ks : List (Entry E)) (asked : List E) (rs : List (Reply W)) (end : End) (shown : History (Entry E)) (front : Option (History (Entry E))) (P Q : Type 0) → ks ≡ js ++ entries_by author (accepted asked rs) → AreNumbered (js ++ entries_by author (accepted asked rs)) author asked rs
    → MatchEnd end (λ n. n ≡ length ks) (Unit {0}) (Unit {0}) → MatchEnd end (λ _. edits_of shown ≡ ks) P Q → MatchEnd end (λ _. StandsLast (entries_by author (accepted asked rs)) shown) (Unit {0}) (Unit {0})
    → MatchEnd end (λ _. MatchOption front ⊥ (λ f. f ≡ shown)) (front ≡ None) (front ≡ None)
    → MatchEnd end (λ n. MatchOption front ⊥ (λ f. IsPublished js author asked rs n f)) (front ≡ None) (front ≡ None)
answered author js ks asked rs (Published n) shown None P Q taken right count whole last is = is
answered author js ks asked rs (Published n) shown (Some f) P Q taken right count whole last is = published_is author js ks asked rs n shown f taken right count whole last is
answered author js ks asked rs Stopped shown front P Q taken right count whole last is = is
answered author js ks asked rs Unpublished shown front P Q taken right count whole last is = is

pub where_some : {F : Type 0} (P Q : F → Type 0) (front : Option F) → ((f : F) → P f → Q f) → IfSome front P → IfSome front Q
where_some P Q None more p = tt
where_some P Q (Some f) more p = more f p

-- a front stands there only where it was published
pub at_front : {E W : Type 0} (before : List (Entry E)) (author : ℕ) (asked : List E) (rs : List (Reply W)) (end : End) (front : Option (History (Entry E))) → MatchEnd end (λ n. MatchOption front ⊥ (λ f. IsPublished before author asked rs n f)) (front ≡ None) (front ≡ None)
    → IfSome front (λ f. (n : ℕ) × IsPublished before author asked rs n f)
at_front before author asked rs end None is = tt
at_front before author asked rs (Published n) (Some f) is = (n, is)
at_front before author asked rs Stopped (Some f) is = absurd (cc is)
at_front before author asked rs Unpublished (Some f) is = absurd (cc is)

pub counted_at : {E W : Type 0} (before : List (Entry E)) (author : ℕ) (asked : List E) (rs : List (Reply W)) (end : End) (front : Option (History (Entry E))) → MatchEnd end (λ n. MatchOption front ⊥ (λ f. IsPublished before author asked rs n f)) (front ≡ None) (front ≡ None)
    → MatchEnd end (λ n. MatchOption front ⊥ (λ f. n ≡ length (edits_of f))) (front ≡ None) (front ≡ None)
counted_at before author asked rs (Published n) None is = is
counted_at before author asked rs (Published n) (Some f) is = is.counts
counted_at before author asked rs Stopped front is = is
counted_at before author asked rs Unpublished front is = is

entries_count : {E : Type 0} (author : ℕ) (es : List E) → length (entries_by author es) ≡ length es
entries_count author [] = refl
entries_count author (e ∷ es) = omega (arith, entries_count author es)

-- what stood there before the accepted edits
pub before_is : {E W : Type 0} (before : List (Entry E)) (author : ℕ) (asked : List E) (rs : List (Reply W)) (n : ℕ) (f : History (Entry E)) → IsPublished before author asked rs n f → before ≡ entered_before f asked rs
before_is before author asked rs n f is =
    let es = accepted asked rs in let last = entries_by author es in
    let count : length (edits_of f) ≡ length before + length es = ap length is.ends ∙ (length-append before last ∙ ap (λ k. length before + k) (entries_count author es)) in
    let short : length (edits_of f) - length es ≡ length before = omega (arith, count) in
    sym (ap (λ k. take k (edits_of f)) short ∙ (ap (take (length before)) is.ends ∙ take-append_seam before last))

pub where_none : {F : Type 0} (P : Type 0) (front : Option F) → P → IfNone front P
where_none P None p = p
where_none P (Some f) p = tt

edits_both : {E : Type 0} (xs ys : History E) → edits_of (xs ++ ys) ≡ edits_of xs ++ edits_of ys
edits_both [] ys = refl
edits_both (p ∷ xs) ys = ap (λ z. p ++ z) (edits_both xs ys) ∙ sym (append_assoc p (edits_of xs) (edits_of ys))

-- no more is shown than the journal has
pub shown_within : {J : Type 0} (shown history : History J) (pending js : List J) → BeginsWith history shown → IsPrefix (edits_of history ++ pending) js → length (edits_of shown) ≤ length js
shown_within shown history pending js front told =
    let more : length (edits_of history) ≡ length (edits_of shown) + length (edits_of front.0) = ap length (sym (ap edits_of front.1) ∙ edits_both shown front.0) ∙ length-append (edits_of shown) (edits_of front.0) in
    omega (arith, more, ap length told.1, length-append (edits_of history ++ pending) told.0, length-append (edits_of history) pending)

-- at which entries the checkpoint let the submit pass
pub passed_at : {E G : Type 0} (passed : G → ℕ → ℕ → G → Type 0) (old new : G) (author : ℕ) (js ks : List (Entry E)) (es : List E) (end : End) (shown : ℕ) → ks ≡ js ++ entries_by author es → shown ≤ length js
    → MatchEnd end (λ n. n ≡ length ks) (Unit {0}) (Unit {0}) → MatchEnd end (λ _. passed old (length ks) shown new) (new ≡ old) (passed old (length ks) shown new)
    → MatchEnd end (λ n. IsPassed passed old new n (length es)) (new ≡ old) ((n : ℕ) × IsPassed passed old new n (length es))
passed_at passed old new author js ks es (Published n) shown taken short count is =
    (shown, omega (arith, short, count, ap length taken, length-append js (entries_by author es), entries_count author es), subst (λ k. passed old k shown new) (sym count) is)
passed_at passed old new author js ks es Stopped shown taken short count is = is
passed_at passed old new author js ks es Unpublished shown taken short count is =
    (length ks, (shown, omega (arith, short, ap length taken, length-append js (entries_by author es), entries_count author es), is))
