-- What the step under the lock answers. (this project's profile)
use Rattle.std.specs.Prelude.{◌≡◌, ℕ, List, ◌++◌, length}
use Rattle.cq_desk.specs.History.{History, edits_of, StandsLast}
use Rattle.cq_desk.specs.Replies.{accepted, entries_by}
use Rattle.cq_desk.specs.declared.journal.Entry.{Entry}
use Rattle.cq_desk.specs.declared.reply.Reply.{Reply}
use Rattle.cq_room.specs.Receipts.{AreNumbered}

-- A front whose entries are those before and then the accepted edits under this author, all of which stand in its last publication; it is counted, and each number is right.
pub record IsPublished {E W : Type 0} (before : List (Entry E)) (author : ℕ) (asked : List E) (replies : List (Reply W)) (count : ℕ) (front : History (Entry E)) : Type 0 where
  pub ends : edits_of front ≡ before ++ entries_by author (accepted asked replies)
  pub last : StandsLast (entries_by author (accepted asked replies)) front
  pub counts : count ≡ length (edits_of front)
  pub numbered : AreNumbered (edits_of front) author asked replies
