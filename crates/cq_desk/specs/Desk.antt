-- What contracts see of a desk, and what its type says. (this project's profile)
use Rattle.std.specs.Prelude.{◌≡◌, ℕ, ◌+◌, ◌≤◌, List, ◌++◌, [], ◌∷◌, length, fold, take, Option}
use Rattle.cq_desk.specs.declared.journal.Entry.{Entry}
use Rattle.cq_desk.specs.declared.reply.Reply.{Reply}
use Rattle.cq_desk.specs.History.{History, edits_of, BeginsWith}
use Rattle.cq_desk.specs.Replies.{AreAccepted, accepted, entries_by, journal_edits}
use Rattle.cq_desk.specs.Machine.{most_entries}

-- A publisher, all edits that were ever accepted, with their authors, how many of them there may be since the last checkpoint, and how many came before it.
pub record DeskRecord (P E : Type 0) : Type 0 where
  pub publisher : P
  pub journal : List (Entry E)
  pub limit : ℕ
  pub base : ℕ

-- All entries, by how many came before the last checkpoint, the publications, in which these are the first, and the entries since the checkpoint.
abbrev pub whole_journal : {E : Type 0} → ℕ → History (Entry E) → List (Entry E) → List (Entry E)
whole_journal base history entries = take base (edits_of history) ++ entries

-- The desk after this edit of this author had this reply: it has the entry more where the reply says that it was entered, and is the same where it says otherwise.
abbrev pub with_reply : {P E W : Type 0} → ℕ → E → Reply W → DeskRecord P E → DeskRecord P E
with_reply author edit reply desk = record desk { journal = desk.journal ++ entries_by author (accepted (edit ∷ []) (reply ∷ [])) }

-- Working state, publisher and journal agree. The working content is what the journal leaves over the opening content; the
-- publications, then what is pending, are the entries handed over, with their authors; what is shown is a front of the history, and is counted. Each entry was
-- accepted after those before it. What came before the last checkpoint is published, and there are no more entries since than the limit, and no more in all than there are numbers.
pub record IsInStep {E C W : Type 0} (after : C → E → C) (why : C → E → Option W) (working opening : C) (history shown : History (Entry E)) (pending : List (Entry E)) (journal : List (Entry E)) (limit base handed published : ℕ) : Type 0 where
  pub works : working ≡ fold after opening (journal_edits journal)
  pub told : edits_of history ++ pending ≡ take handed journal
  pub handed_within : handed ≤ length journal
  pub counts : published ≡ length (edits_of shown)
  pub front : BeginsWith history shown
  pub accepted : AreAccepted after why opening (journal_edits journal)
  pub within : length journal ≤ base + limit
  pub based : base ≤ published
  pub numbers : length journal ≤ most_entries
