-- What edits are answered that come one after another, and what they leave in a journal. (this project's profile)
use Rattle.std.specs.Prelude.{◌≡◌, ℕ, ◌+◌, List, [], ◌∷◌, ◌++◌, length, fold, map, nat_le, if◌then◌else◌, Option, Some, None}
use Rattle.cq_desk.specs.declared.journal.Entry.{Entry}
use Rattle.cq_desk.specs.declared.reply.Reply.{Reply}
use Rattle.cq_desk.specs.declared.reply.Reply.TheVariants.{Entered, JournalFull, Not}
use Rattle.cq_desk.specs.declared.reply.End.{End}
use Rattle.cq_desk.specs.declared.reply.End.TheVariants.{Published, Stopped, Unpublished}

-- The edits of a journal.
abbrev pub journal_edits : {E : Type 0} → List (Entry E) → List E
journal_edits journal = map (λ entry. entry.edit) journal

-- The entries of these edits, all of one author.
abbrev pub entries_by : {E : Type 0} → ℕ → List E → List (Entry E)
entries_by author es = map (λ e. record { author = author; edit = e }) es

-- The reply to an edit that meets no limit, by the number of entries and the state's reason.
abbrev pub admitted : {W : Type 0} → ℕ → Option W → Reply W
admitted entries (Some reason) = Not reason
admitted entries None = Entered (entries + 1)

-- The reply to an edit, where these edits stand in the journal: the limit is looked at first, then the state.
abbrev pub reply_at : {E C W : Type 0} → (C → E → C) → (C → E → Option W) → C → ℕ → List E → E → Reply W
reply_at after why opening limit entered edit =
    if nat_le limit (length entered) then JournalFull else admitted (length entered) (why (fold after opening entered) edit)

-- Those of the edits whose reply says that they were entered. An edit without a reply was not.
abbrev pub accepted : {E W : Type 0} → List E → List (Reply W) → List E
accepted [] replies = []
accepted (e ∷ es) [] = []
accepted (e ∷ es) (Entered number ∷ replies) = e ∷ accepted es replies
accepted (e ∷ es) (JournalFull ∷ replies) = accepted es replies
accepted (e ∷ es) (Not reason ∷ replies) = accepted es replies

-- Each of these edits is accepted where it comes: the content that those before it leave has no reason against it.
abbrev pub AreAccepted : {E C W : Type 0} → (C → E → C) → (C → E → Option W) → C → List E → Type 0
AreAccepted after why content [] = Unit {0}
AreAccepted after why content (e ∷ es) = (why content e ≡ None) × AreAccepted after why (after content e) es

-- The replies to edits that come one after another, where these stand in the journal before the first.
abbrev pub replies_at : {E C W : Type 0} → (C → E → C) → (C → E → Option W) → C → ℕ → List E → List E → List (Reply W)
replies_at after why opening limit entered [] = []
replies_at after why opening limit entered (e ∷ es) =
    reply_at after why opening limit entered e ∷ replies_at after why opening limit (entered ++ accepted (e ∷ []) (reply_at after why opening limit entered e ∷ [])) es

-- What holds at each of the three ends: where so many are published, where it stopped, and where it was not published.
abbrev pub MatchEnd : End → (ℕ → Type 0) → Type 0 → Type 0 → Type 0
MatchEnd (Published count) published stopped unpublished = published count
MatchEnd Stopped published stopped unpublished = stopped
MatchEnd Unpublished published stopped unpublished = unpublished
