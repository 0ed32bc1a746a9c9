-- What an edit that comes to a journal is answered.
use Rattle.std.proofs.Common.{◌≡◌, ℕ, ◌+◌, ◌<◌, ◌≤◌, true, false, nat_le, if◌then◌else◌, List, [], ◌∷◌, ◌++◌, length, fold, Option, Some, None, Result, Ok, Err, OnOk, OnErr, is_err, ap, sym, ◌∙◌, subst, arith}
use Rattle.std.proofs.lemmas.Bool.{true≢false, false≢true, le-leb, lt-leb}
use Rattle.std.proofs.lemmas.List.{append-nil, length-map}
use Rattle.cq_desk.specs.Desk.{DeskRecord, IsInStep, whole_journal}
use Rattle.cq_desk.specs.History.{History}
use Rattle.cq_desk.specs.Replies.{admitted, journal_edits, reply_at}
use Rattle.cq_desk.specs.declared.journal.Entry.{Entry}
use Rattle.cq_desk.specs.declared.reply.Reply.TheVariants.{Entered, JournalFull, Not}
use Rattle.cq_desk.proofs.Basing.{whole_more}

pub on_error : {T E P : Type 0} (r : Result T E) → P → OnErr r P
on_error (Ok x) p = tt
on_error (Err e) p = p

-- what holds where there is none, and where there is one
pub no_error : {T E P : Type 0} (r : Result T E) → false ≡ is_err r → OnOk r P → P
no_error (Ok x) is p = p
no_error (Err e) is p = absurd (false≢true is)

pub an_error : {T E P : Type 0} (r : Result T E) → true ≡ is_err r → OnErr r P → P
an_error (Ok x) is p = absurd (true≢false is)
an_error (Err e) is p = p

module _ {E C W : Type 0} (after : C → E → C) (why : C → E → Option W) (opening : C) (limit : ℕ) where
  -- there is no room
  pub reply_full : (js : List (Entry E)) (e : E) → limit ≤ length js → JournalFull ≡ reply_at after why opening limit (journal_edits js) e
  reply_full js e full =
      let n : length (journal_edits js) ≡ length js = length-map js (λ j. j.edit) in
      let is : nat_le limit (length (journal_edits js)) ≡ true = le-leb limit (length (journal_edits js)) (omega (arith, full, n)) in
      ap (λ b. if b then JournalFull else admitted (length (journal_edits js)) (why (fold after opening (journal_edits js)) e)) (sym is)

  -- there is room, and the state answers this
  reply_room : (js : List (Entry E)) (e : E) (r : Option W) → length js < limit → r ≡ why (fold after opening (journal_edits js)) e → admitted (length js) r ≡ reply_at after why opening limit (journal_edits js) e
  reply_room js e r room is =
      let n : length (journal_edits js) ≡ length js = length-map js (λ j. j.edit) in
      let short : nat_le limit (length (journal_edits js)) ≡ false = lt-leb limit (length (journal_edits js)) (omega (arith, room, n)) in
      let x = admitted (length (journal_edits js)) (why (fold after opening (journal_edits js)) e) in
      ap (λ k. admitted k r) (sym n) ∙ (ap (admitted (length (journal_edits js))) is ∙ ap (λ b. if b then JournalFull else x) (sym short))

  pub reply_not : (js : List (Entry E)) (e : E) (now : C) (r : Option W) (w : W) → length js < limit → now ≡ fold after opening (journal_edits js) → r ≡ why now e → r ≡ Some w → Not w ≡ reply_at after why opening limit (journal_edits js) e
  reply_not js e now r w room is answer some = reply_room js e (Some w) room (sym some ∙ (answer ∙ ap (λ c. why c e) is))

  pub reply_entered : (js : List (Entry E)) (e : E) (now : C) (r : Option W) (n : ℕ) → length js < limit → now ≡ fold after opening (journal_edits js) → r ≡ why now e → r ≡ None → n ≡ length js + 1 → Entered n ≡ reply_at after why opening limit (journal_edits js) e
  reply_entered js e now r n room is answer none count = ap Entered count ∙ reply_room js e None room (sym none ∙ (answer ∙ ap (λ c. why c e) is))

-- the view of a desk, with the journal that these entries are
pub desk_as : {P E : Type 0} (publisher : P) (js ks : List (Entry E)) (limit base : ℕ) (h : History (Entry E)) (a : DeskRecord P E) → ks ≡ js → record { publisher = publisher; journal = whole_journal base h js; limit = limit; base = base } ≡ a → record { publisher = publisher; journal = whole_journal base h ks; limit = limit; base = base } ≡ a
desk_as {P} {E} publisher js ks limit base h a same view = let F : List (Entry E) → DeskRecord P E = λ z. record { publisher = publisher; journal = whole_journal base h z; limit = limit; base = base } in ap F same ∙ view

pub desk_same : {P E : Type 0} (a b : DeskRecord P E) → b ≡ a → b ≡ record a { journal = a.journal ++ [] }
desk_same {P} {E} a b is = let F : List (Entry E) → DeskRecord P E = λ z. record a { journal = z } in is ∙ ap F (sym (append-nil a.journal))

pub desk_more : {P E : Type 0} (publisher : P) (js ks : List (Entry E)) (limit base : ℕ) (h : History (Entry E)) (e : Entry E) (a : DeskRecord P E) → ks ≡ js ++ e ∷ [] → record { publisher = publisher; journal = whole_journal base h js; limit = limit; base = base } ≡ a → record { publisher = publisher; journal = whole_journal base h ks; limit = limit; base = base } ≡ record a { journal = a.journal ++ e ∷ [] }
desk_more {P} {E} publisher js ks limit base h e a more view =
    let F : List (Entry E) → DeskRecord P E = λ z. record { publisher = publisher; journal = z; limit = limit; base = base } in
    let G : DeskRecord P E → DeskRecord P E = λ v. record v { journal = v.journal ++ e ∷ [] } in ap F (whole_more base h js ks e more) ∙ ap G view

-- and what its type says
pub in_step_as : {E C W : Type 0} (after : C → E → C) (why : C → E → Option W) (working now opening : C) (history shown : History (Entry E)) (pending js ks : List (Entry E)) (limit base handed published : ℕ) → now ≡ working → ks ≡ js → IsInStep after why working opening history shown pending (whole_journal base history js) limit base handed published → IsInStep after why now opening history shown pending (whole_journal base history ks) limit base handed published
in_step_as after why working now opening history shown pending js ks limit base handed published same is p =
    subst (λ c. IsInStep after why c opening history shown pending (whole_journal base history ks) limit base handed published) (sym same) (subst (λ zs. IsInStep after why working opening history shown pending (whole_journal base history zs) limit base handed published) (sym is) p)
