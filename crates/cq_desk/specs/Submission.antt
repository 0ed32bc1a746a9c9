-- What a submit does to a desk, and how it is answered. (this project's profile)
use Rattle.std.specs.Prelude.{◌≡◌, ℕ, ◌+◌, ◌<◌, List, ◌++◌, length, take, drop, Option, ⊤}
use Rattle.cq_desk.specs.declared.reply.Reply.{Reply}
use Rattle.cq_desk.specs.declared.reply.End.{End}
use Rattle.cq_desk.specs.declared.journal.Entry.{Entry}
use Rattle.cq_desk.specs.History.{History, edits_of, grown, BeginsWith, StandsLast}
use Rattle.cq_desk.specs.Replies.{MatchEnd, accepted, entries_by, journal_edits, replies_at}
use Rattle.cq_desk.specs.Desk.{DeskRecord}

-- How many of the edits have a reply: all of them, but fewer where one was out of memory.
abbrev pub AreTried : {E W : Type 0} → End → List E → List (Reply W) → Type 0
AreTried end asked told = MatchEnd end (λ _. length told ≡ length asked) (length told < length asked) (length told ≡ length asked)

-- This author submits these edits to the old desk, which leaves the new one. They are told these replies and this end. What a publisher holds is said by three functions: its opening content, its
-- publications, and those among them that are shown.
pub record IsSubmission {P C E W : Type 0} (after : C → E → C) (why : C → E → Option W) (opening_of : P → C) (history_of shown_of : P → History (Entry E)) (author : ℕ) (old new : DeskRecord P E) (asked : List E) (told : List (Reply W)) (end : End) : Type 0 where
  -- The journal may hold as many entries as before.
  pub limit : new.limit ≡ old.limit
  -- No checkpoint is made.
  pub base : new.base ≡ old.base
  -- The opening content is as it was.
  pub opening : opening_of new.publisher ≡ opening_of old.publisher
  -- The replies are those to the first of the edits, in turn after what stood in the journal. The limit bounds the entries since the last checkpoint.
  pub replies : told ≡ replies_at after why (opening_of old.publisher) (old.base + old.limit) (journal_edits old.journal) (take (length told) asked)
  -- Exactly the edits that were told a number are entered, under the author's number, after what stood in the journal.
  pub journal : new.journal ≡ old.journal ++ entries_by author (accepted asked told)
  -- How many of the edits have a reply, by the end.
  pub tried : AreTried end asked told
  -- Where all is published, the end tells how many entries the journal has.
  pub count : MatchEnd end (λ count. count ≡ length new.journal) ⊤ ⊤
  -- Where all is published, all entries are shown; where an edit was out of memory, the publisher is as it was; where the publish was, what is shown is as it was.
  pub shown : MatchEnd end (λ _. edits_of (shown_of new.publisher) ≡ new.journal) (new.publisher ≡ old.publisher) (shown_of new.publisher ≡ shown_of old.publisher)
  -- Where all is published, what was entered is the end of the last publication that is shown.
  pub last : MatchEnd end (λ _. StandsLast (entries_by author (accepted asked told)) (shown_of new.publisher)) ⊤ ⊤
  -- Where all is published, there is one publication more, of all entries that no publication had, and none more where there were none.
  pub history : MatchEnd end (λ _. history_of new.publisher ≡ grown (history_of old.publisher) (drop (length (edits_of (history_of old.publisher))) new.journal)) ⊤ ⊤
  -- Where all is published, all publications are shown.
  pub all : MatchEnd end (λ _. shown_of new.publisher ≡ history_of new.publisher) ⊤ ⊤
  -- The publications begin with those that were there.
  pub begins : BeginsWith (history_of new.publisher) (history_of old.publisher)
