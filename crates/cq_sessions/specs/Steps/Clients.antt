-- A session that serves a file, by what it knows.
use Rattle.std.specs.Prelude.{◌≡◌, ℕ, List, [], ◌∷◌, ◌++◌, Option, None, Some, length, take}
use Rattle.cq_board.specs.declared.edit.Why.{Why}
use Rattle.cq_board.specs.Pool.{PoolRecord, opening_pool}
use Rattle.cq_atom.specs.Edit.{Edit}
use Rattle.cq_board.specs.Edits.{why, pool_after}
use Rattle.cq_desk.specs.History.{edits_of}
use Rattle.cq_desk.specs.Replies.{journal_edits, replies_at}
use Rattle.cq_desk.specs.declared.journal.Entry.{Entry}
use Rattle.cq_desk.specs.declared.reply.Reply.{Reply}
use Rattle.cq_room.specs.Sessions.{SessionRecord}
use Rattle.cq_sessions.specs.Script.{Sheet}
use Rattle.cq_sessions.specs.Sessions.{Submitted, EndsFile}
use Rattle.cq_sessions.specs.Steps.Sheets.{SheetRecord, told_in, whole}

-- The edits of the entries that a session knows of, and none where there is no session.
abbrev pub known_in : Option (SessionRecord Edit) → List Edit
known_in None = []
known_in (Some session) = journal_edits (edits_of session.history)

abbrev pub IsSeated : Option (SessionRecord Edit) → Type 0
IsSeated None = ⊥
IsSeated (Some session) = Unit {0}

-- The one opening pool of a room's name.
abbrev pub IsOpened : List PoolRecord → Type 0
IsOpened pools = (pool : PoolRecord) × (pools ≡ pool ∷ [])

-- The first of the pools; where there is none, one over no relations.
abbrev pub opened_pool : List PoolRecord → PoolRecord
opened_pool [] = opening_pool [] (record { pool = 0; journal = 0 })
opened_pool (pool ∷ pools) = pool

-- A state takes edits as a board does.
abbrev pub TakesEdits : (PoolRecord → Edit → PoolRecord) → (PoolRecord → Edit → Option Why) → Type 0
TakesEdits after reason = (after ≡ pool_after) × (reason ≡ why)

-- The replies to the first of the edits, as many as there are replies, where they enter in turn after the entries before, of which there may be so many in all.
abbrev pub AreRepliesWithin : {E C W : Type 0} → (C → E → C) → (C → E → Option W) → List C → ℕ → List (Entry E) → List E → List (Reply W) → Type 0
AreRepliesWithin {E} {C} after reason opening limit before asked replies = (o : C) → opening ≡ o ∷ [] → replies ≡ replies_at after reason o limit (journal_edits before) (take (length replies) asked)

-- What a submit is answered: a reply for each edit, and how many entries are published, which is how many the session knows of then.
pub record IsSubmission (opening : PoolRecord) (limit : ℕ) (known known' asked : List Edit) (rs : List (Reply Why)) (published : ℕ) : Type 0 where
  pub told : Submitted opening limit known known' asked rs
  pub tried : length rs ≡ length asked
  pub count : published ≡ length known'

-- The edits that wait are submitted, and all lines so far have their replies.
pub record Submits (opening : PoolRecord) (limit : ℕ) (known : List Edit) (sheet : SheetRecord) (known' : List Edit) (sheet' : SheetRecord) (published : ℕ) : Type 0 where
  pub rs : List (Reply Why)
  pub tried : length rs ≡ length sheet.asked
  pub submitted : Submitted opening limit known known' sheet.asked rs
  pub count : published ≡ length known'
  pub after : sheet' ≡ record { replies = whole sheet rs; batch = []; asked = []; numbers = sheet.numbers ++ told_in rs }

-- The file's end is served, and all its lines have their replies.
pub record Ends (opening : PoolRecord) (limit : ℕ) (known : List Edit) (sheet : SheetRecord) (known' : List Edit) (replies : Sheet) (numbers : List ℕ) : Type 0 where
  pub rs : List (Reply Why)
  pub tried : length rs ≡ length sheet.asked
  pub ends : EndsFile opening limit known sheet.asked rs known'
  pub whole_of : replies ≡ whole sheet rs
  pub numbers_are : numbers ≡ sheet.numbers ++ told_in rs
