-- What contracts see of three states that take turns, and what their type says. Their type is private.
use Rattle.std.specs.Prelude.{◌≡◌, ◌⊎◌, ℕ, ◌+◌, ◌-◌, ◌≤◌, min, nat_le, if◌then◌else◌, List, ◌++◌, [], ◌∷◌, length, fold, take, Option}
use Rattle.cq_desk.specs.declared.journal.Entry.{Entry}
use Rattle.cq_desk.specs.declared.reply.Reply.{Reply}
use Rattle.cq_desk.specs.declared.reply.Reply.TheVariants.{JournalFull}
use Rattle.cq_desk.specs.Replies.{accepted, admitted, entries_by, journal_edits}
use Rattle.cq_desk.specs.Machine.{most_entries}

-- The content before the journal, the accepted edits with their authors, how many of them there may be, how many came before them, how many are
-- published, and the content that was published before the last publish.
pub record TurnsRecord (C E : Type 0) : Type 0 where
  pub opening : C
  pub limit : ℕ
  pub base : ℕ
  pub journal : List (Entry E)
  pub published : ℕ
  pub earlier : C

-- The same after this edit of this author had this reply.
abbrev pub replied : {C E W : Type 0} → ℕ → E → Reply W → TurnsRecord C E → TurnsRecord C E
replied author edit reply turns = record turns { journal = turns.journal ++ entries_by author (accepted (edit ∷ []) (reply ∷ [])) }

-- What the whole journal leaves.
abbrev pub working_content : {C E : Type 0} → (C → E → C) → TurnsRecord C E → C
working_content after turns = fold after turns.opening (journal_edits turns.journal)

-- The reply to an edit.
abbrev pub reply_to : {C E W : Type 0} → (C → E → C) → (C → E → Option W) → TurnsRecord C E → E → Reply W
reply_to after why turns edit =
    if nat_le turns.limit (length turns.journal) then JournalFull else admitted (turns.base + length turns.journal) (why (working_content after turns) edit)

-- What the published entries leave.
abbrev pub shown_content : {C E : Type 0} → (C → E → C) → TurnsRecord C E → C
shown_content after turns = fold after turns.opening (journal_edits (take turns.published turns.journal))

-- The same after all was published.
abbrev pub published : {C E : Type 0} → (C → E → C) → TurnsRecord C E → TurnsRecord C E
published after turns = record turns { published = length turns.journal; earlier = shown_content after turns }

-- The same after a checkpoint.
abbrev pub renewed : {C E : Type 0} → (C → E → C) → TurnsRecord C E → TurnsRecord C E
renewed after turns =
    record turns { opening = shown_content after turns; limit = min turns.limit (most_entries - (turns.base + length turns.journal)); base = turns.base + length turns.journal; journal = []; published = 0 }

-- The same after the journal, which is empty, begins over this content under this limit.
abbrev pub reopened : {C E : Type 0} → C → ℕ → TurnsRecord C E → TurnsRecord C E
reopened opening limit turns = record turns { opening = opening; limit = min limit (most_entries - turns.base); earlier = opening }

-- Each content is what the edits of the first so many entries leave over the root: the past one of those behind, the shown one of the published ones, the other
-- one of those that it took in. If it lacks some, all are published.
pub record AreInTurn {C E : Type 0} (after : C → E → C) (root past shown other : C) (entries : List (Entry E)) (behind published taken : ℕ) : Type 0 where
  pub keeps : past ≡ fold after root (journal_edits (take behind entries))
  pub shows : shown ≡ fold after root (journal_edits (take published entries))
  pub follows : other ≡ fold after root (journal_edits (take taken entries))
  pub published_within : published ≤ length entries
  pub taken_within : taken ≤ length entries
  pub one_has_all : (taken ≡ length entries) ⊎ (published ≡ length entries)

-- Before the last publish as many entries were published as the past content has, or else as many as are published now, and the past content has no more. The
-- entries before the journal are published. The journal, which is the other entries, has no more than it may contain and than there are numbers.
pub record AreCounted (limit base entries skipped published before behind : ℕ) : Type 0 where
  pub behind_within : behind ≤ before
  pub before_within : before ≤ published
  pub one_is_before : (before ≡ behind) ⊎ (before ≡ published)
  pub skipped_within : skipped ≤ published
  pub within : entries ≤ skipped + limit
  pub numbers : base + limit ≤ most_entries

-- Over any opening content: where the one content was what so many entries leave, the other is what so many leave.
abbrev pub LeadsOn : {C E : Type 0} → (C → E → C) → List (Entry E) → C → ℕ → C → ℕ → Type 0
LeadsOn {C} after journal before taken now more = (opening : C) → before ≡ fold after opening (journal_edits (take taken journal)) → now ≡ fold after opening (journal_edits (take more journal))
