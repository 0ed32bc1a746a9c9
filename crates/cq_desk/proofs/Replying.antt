-- What replies to a list of edits leave.
use mathlib.Core.List.{IsPrefix}
use Rattle.std.proofs.Common.{◌≡◌, ℕ, List, [], ◌∷◌, ◌++◌, Option, length, take, drop, refl, sym, ap, ◌∙◌, subst, append_assoc, arith}
use Rattle.std.proofs.lemmas.List.{append-nil, map-append}
use Rattle.std.proofs.Math.Seq.{take-append_seam}
use Rattle.cq_desk.specs.History.{edits_of, grown, StandsLast}
use Rattle.cq_desk.specs.Desk.{DeskRecord}
use Rattle.cq_desk.specs.Replies.{journal_edits, accepted, entries_by, replies_at, reply_at}
use Rattle.cq_desk.specs.declared.journal.Entry.{Entry}
use Rattle.cq_desk.specs.declared.reply.Reply.{Reply}
use Rattle.cq_desk.specs.declared.reply.Reply.TheVariants.{Entered, JournalFull, Not}
use Rattle.cq_desk.proofs.Histories.{rest_is}

pub accepted-cons : {E W : Type 0} (e : E) (es : List E) (r : Reply W) (rs : List (Reply W)) → accepted (e ∷ es) (r ∷ rs) ≡ accepted (e ∷ []) (r ∷ []) ++ accepted es rs
accepted-cons e es (Entered n) rs = refl
accepted-cons e es JournalFull rs = refl
accepted-cons e es (Not w) rs = refl

pub accepted-snoc : {E W : Type 0} (es : List E) (rs : List (Reply W)) (e : E) (r : Reply W) → length rs ≡ length es → accepted (es ++ e ∷ []) (rs ++ r ∷ []) ≡ accepted es rs ++ accepted (e ∷ []) (r ∷ [])
accepted-snoc [] [] e r n = refl
accepted-snoc [] (s ∷ rs) e r n = absurd (omega (arith, n))
accepted-snoc (x ∷ es) [] e r n = absurd (omega (arith, n))
accepted-snoc (x ∷ es) (s ∷ rs) e r n =
    accepted-cons x (es ++ e ∷ []) s (rs ++ r ∷ []) ∙ (ap (λ z. accepted (x ∷ []) (s ∷ []) ++ z) (accepted-snoc es rs e r (omega (arith, n)))
    ∙ (sym (append_assoc (accepted (x ∷ []) (s ∷ [])) (accepted es rs) (accepted (e ∷ []) (r ∷ []))) ∙ ap (λ z. z ++ accepted (e ∷ []) (r ∷ [])) (sym (accepted-cons x es s rs))))

-- edits that have no reply were not entered
pub accepted-more : {E W : Type 0} (es more : List E) (rs : List (Reply W)) → length rs ≡ length es → accepted (es ++ more) rs ≡ accepted es rs
accepted-more [] [] [] n = refl
accepted-more [] (m ∷ more) [] n = refl
accepted-more [] more (s ∷ rs) n = absurd (omega (arith, n))
accepted-more (x ∷ es) more [] n = absurd (omega (arith, n))
accepted-more (x ∷ es) more (s ∷ rs) n =
    accepted-cons x (es ++ more) s rs ∙ (ap (λ z. accepted (x ∷ []) (s ∷ []) ++ z) (accepted-more es more rs (omega (arith, n))) ∙ sym (accepted-cons x es s rs))

module _ {E C W : Type 0} (after : C → E → C) (why : C → E → Option W) (opening : C) (limit : ℕ) where
  pub replies-snoc : (js es : List E) (e : E) → replies_at after why opening limit js (es ++ e ∷ []) ≡ replies_at after why opening limit js es ++ reply_at after why opening limit (js ++ accepted es (replies_at after why opening limit js es)) e ∷ []
  replies-snoc js [] e = ap (λ z. reply_at after why opening limit z e ∷ []) (sym (append-nil js))
  replies-snoc js (x ∷ es) e =
      let r = reply_at after why opening limit js x in
      let ks = js ++ accepted (x ∷ []) (r ∷ []) in
      let rs = replies_at after why opening limit ks es in
      let same : ks ++ accepted es rs ≡ js ++ accepted (x ∷ es) (r ∷ rs) = append_assoc js (accepted (x ∷ []) (r ∷ [])) (accepted es rs) ∙ ap (λ z. js ++ z) (sym (accepted-cons x es r rs)) in
      ap (λ z. r ∷ z) (replies-snoc ks es e) ∙ ap (λ z. r ∷ (rs ++ reply_at after why opening limit z e ∷ [])) same

  -- one reply more
  pub replied_on : (js ks es : List E) (rs new : List (Reply W)) (e : E) (r : Reply W) → rs ≡ replies_at after why opening limit js es → ks ≡ js ++ accepted es rs → r ≡ reply_at after why opening limit ks e → new ≡ rs ++ r ∷ [] → new ≡ replies_at after why opening limit js (es ++ e ∷ [])
  replied_on js ks es rs new e r was journal reply is =
      is ∙ (ap (λ z. rs ++ z ∷ []) (reply ∙ ap (λ z. reply_at after why opening limit z e) (journal ∙ ap (λ z. js ++ accepted es z) was))
      ∙ (ap (λ z. z ++ reply_at after why opening limit (js ++ accepted es (replies_at after why opening limit js es)) e ∷ []) was ∙ sym (replies-snoc js es e)))

pub edits-entries : {E : Type 0} (author : ℕ) (es : List E) → journal_edits (entries_by author es) ≡ es
edits-entries author [] = refl
edits-entries author (e ∷ es) = ap (λ z. e ∷ z) (edits-entries author es)

-- the edits of a journal with these more
pub edits_entered : {E : Type 0} (author : ℕ) (js ks : List (Entry E)) (es : List E) → ks ≡ js ++ entries_by author es → journal_edits ks ≡ journal_edits js ++ es
edits_entered author js ks es is = ap journal_edits is ∙ (map-append (λ e. e.edit) js (entries_by author es) ∙ ap (λ z. journal_edits js ++ z) (edits-entries author es))

pub entered_on : {E W : Type 0} (author : ℕ) (js ks : List (Entry E)) (es : List E) (rs new : List (Reply W)) (e : E) (r : Reply W) → length rs ≡ length es → ks ≡ js ++ entries_by author (accepted es rs) → new ≡ rs ++ r ∷ [] → ks ++ entries_by author (accepted (e ∷ []) (r ∷ [])) ≡ js ++ entries_by author (accepted (es ++ e ∷ []) new)
entered_on author js ks es rs new e r n was is =
    ap (λ z. z ++ entries_by author (accepted (e ∷ []) (r ∷ []))) was ∙ (append_assoc js (entries_by author (accepted es rs)) (entries_by author (accepted (e ∷ []) (r ∷ [])))
    ∙ ap (λ z. js ++ z) (sym (map-append (λ e. record { author = author; edit = e }) (accepted es rs) (accepted (e ∷ []) (r ∷ [])))
    ∙ ap (entries_by author) (sym (ap (accepted (es ++ e ∷ [])) is ∙ accepted-snoc es rs e r n))))

-- a desk that took in one edit more
pub taken_in : {P E W : Type 0} (author : ℕ) (a v w : DeskRecord P E) (es : List E) (rs new : List (Reply W)) (e : E) (r : Reply W) → length rs ≡ length es → v ≡ record a { journal = a.journal ++ entries_by author (accepted es rs) } → w ≡ record v { journal = v.journal ++ entries_by author (accepted (e ∷ []) (r ∷ [])) } → new ≡ rs ++ r ∷ [] → w ≡ record a { journal = a.journal ++ entries_by author (accepted (es ++ e ∷ []) new) }
taken_in {P} {E} author a v w es rs new e r n was now is =
    let F : DeskRecord P E → DeskRecord P E = λ u. record u { journal = v.journal ++ entries_by author (accepted (e ∷ []) (r ∷ [])) } in
    let G : List (Entry E) → DeskRecord P E = λ js. record a { journal = js } in
    now ∙ (ap F was ∙ ap G (entered_on author a.journal v.journal es rs new e r n (ap (λ u. u.journal) was) is))

-- the edits that have a reply are the first ones
pub tried_first : {E B : Type 0} (es more all : List E) (rs : List B) → es ++ more ≡ all → length rs ≡ length es → es ≡ take (length rs) all
tried_first es more all rs is n = sym (take-append_seam es more) ∙ (ap (take (length es)) is ∙ ap (λ k. take k all) (sym n))

pub nothing_left : {A : Type 0} (xs : List A) → length xs ≡ 0 → xs ≡ []
nothing_left [] n = refl
nothing_left (x ∷ xs) n = absurd (omega (arith, n))

stands_last : {E : Type 0} (h : List (List E)) (x es : List E) → StandsLast es (grown h (x ++ es))
stands_last h x [] = tt
stands_last h [] (e ∷ es) = (h, [], refl)
stands_last h (y ∷ x) (e ∷ es) = (h, y ∷ x, refl)

-- what was entered since stands in the publication that a publish adds
pub published_last : {E : Type 0} (h g : List (List E)) (p js ks es : List E) → IsPrefix (edits_of h ++ p) js → ks ≡ js ++ es → g ≡ grown h (drop (length (edits_of h)) ks) → StandsLast es g
published_last h g p js ks es told more is =
    let x = p ++ told.0 in
    let whole : edits_of h ++ (x ++ es) ≡ ks = sym (append_assoc (edits_of h) x es) ∙ (ap (λ z. z ++ es) (sym (append_assoc (edits_of h) p told.0) ∙ told.1) ∙ sym more) in
    subst (StandsLast es) (sym (is ∙ ap (grown h) (sym (rest_is (edits_of h) (x ++ es) ks whole)))) (stands_last h x es)
