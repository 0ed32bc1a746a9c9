-- What a submit answers, and what a session hears. (this project's profile)
use mathlib.Core.List.{IsPrefix}
use Rattle.std.specs.Prelude.{◌≡◌, ℕ, ◌+◌, ◌-◌, ◌≤◌, Bool, if◌then◌else◌, List, [], ◌∷◌, ◌++◌, ◌⊎◌, Option, None, IfNone, IfSome, MatchOption, length, take}
use Rattle.cq_desk.specs.History.{History, edits_of, BeginsWith, StandsLast}
use Rattle.cq_desk.specs.Replies.{MatchEnd, accepted, entries_by, journal_edits, replies_at}
use Rattle.cq_desk.specs.Submission.{AreTried}
use Rattle.cq_desk.specs.declared.journal.Entry.{Entry}
use Rattle.cq_desk.specs.declared.reply.Reply.{Reply}
use Rattle.cq_desk.specs.declared.reply.Reply.TheVariants.{Entered}
use Rattle.cq_desk.specs.declared.reply.End.{End}
use Rattle.cq_room.specs.Sessions.{SessionRecord}

-- These are the replies to the first of the edits, as many as there are replies, where they enter in turn after the entries before. The limit bounds the entries since the last checkpoint, and all of them if the room's owner makes none. A room's name has one opening content.
abbrev pub AreReplies : {E C W : Type 0} → (C → E → C) → (C → E → Option W) → List C → ℕ → Bool → List (Entry E) → List E → List (Reply W) → Type 0
AreReplies {E} {C} after why opening limit renews before asked replies = (since : ℕ) × (since ≤ (if renews then length before else 0)) × ((o : C) → opening ≡ o ∷ [] → replies ≡ replies_at after why o (since + limit) (journal_edits before) (take (length replies) asked))

-- The element is the one of that number, counted from 1: an entry of a journal, or an edit of its edits.
abbrev pub StandsAt : {X : Type 0} → List X → ℕ → X → Type 0
StandsAt {X} xs number x = (before : List X) × (behind : List X) × (xs ≡ before ++ x ∷ behind) × (number ≡ length before + 1)

-- Each edit that was answered with a number is the entry of that number, under this author.
abbrev pub AreNumbered : {E W : Type 0} → List (Entry E) → ℕ → List E → List (Reply W) → Type 0
AreNumbered entries author (e ∷ asked) (Entered number ∷ replies) = StandsAt entries number (record { author = author; edit = e }) × AreNumbered entries author asked replies
AreNumbered entries author (e ∷ asked) (reply ∷ replies) = AreNumbered entries author asked replies
AreNumbered entries author asked replies = Unit {0}

-- The entries of a front without the last ones, as many as were accepted: what the journal held when the first of them entered.
abbrev pub entered_before : {E W : Type 0} → History (Entry E) → List E → List (Reply W) → List (Entry E)
entered_before front asked replies = take (length (edits_of front) - length (accepted asked replies)) (edits_of front)

-- The session has heard the front.
pub record Heard {E : Type 0} (old new : SessionRecord E) (front : History (Entry E)) : Type 0 where
  pub own : BeginsWith new.history old.history
  pub told : BeginsWith new.history front
  pub one : (new.history ≡ old.history) ⊎ (new.history ≡ front)
  pub number : new.number ≡ old.number

-- The session knows then of some entries, which begin with all that it knew of and had seen, and after them of the accepted edits under its number. The replies are those to the edits after these entries.
pub record Enters {E C W : Type 0} (after : C → E → C) (why : C → E → Option W) (opening : List C) (limit : ℕ) (renews : Bool) (old new : SessionRecord E) (asked : List E) (replies : List (Reply W)) : Type 0 where
  pub before : List (Entry E)
  pub knew : IsPrefix old.known before
  pub seen : IsPrefix (edits_of old.history) before
  pub told : AreReplies after why opening limit renews before asked replies
  pub now : new.known ≡ before ++ entries_by old.number (accepted asked replies)

-- A session submits these edits, and is told these replies, this end, and the front that is shown, where there is one. It was the old session, and is the new one. What stood in the journal before is called `before` here: the front's entries without
-- the accepted edits (`entered_before`).
pub record IsReceipt {E C W : Type 0} (after : C → E → C) (why : C → E → Option W) (opening : List C) (limit : ℕ) (renews : Bool) (old new : SessionRecord E) (asked : List E) (told : List (Reply W)) (end : End) (shown : Option (History (Entry E))) : Type 0 where
  -- A front is there exactly where all is published, and the end tells the number of its entries.
  pub front : MatchEnd end (λ count. MatchOption shown ⊥ (λ front. count ≡ length (edits_of front))) (shown ≡ None) (shown ≡ None)
  -- How many of the edits have a reply, by the end.
  pub tried : AreTried end asked told
  -- With a front, `before` begins with the entries that the session had seen.
  pub seen : IfSome shown (λ front. IsPrefix (edits_of old.history) (entered_before front asked told))
  -- With a front, the replies are those to the edits after `before`.
  pub replies : IfSome shown (λ front. AreReplies after why opening limit renews (entered_before front asked told) asked told)
  -- With a front, its entries are `before`, and then the accepted edits under the session's number.
  pub last : IfSome shown (λ front. edits_of front ≡ entered_before front asked told ++ entries_by old.number (accepted asked told))
  -- With a front, the accepted edits are the end of its last publication.
  pub publication : IfSome shown (λ front. StandsLast (entries_by old.number (accepted asked told)) front)
  -- With a front, each edit that was told a number is the entry of that number in it, under the session's number.
  pub numbered : IfSome shown (λ front. AreNumbered (edits_of front) old.number asked told)
  -- Without a front, the replies are those to the edits after some entries, which begin with those that the session had seen.
  pub unpublished : IfNone shown ((before : List (Entry E)) × IsPrefix (edits_of old.history) before × AreReplies after why opening limit renews before asked told)
  -- With a front, the session has heard it; without one, its number and its history are as they were.
  pub heard : MatchOption shown (new ≡ record old { known = new.known }) (λ front. Heard old new front)
  -- Whatever the end, the session knows then of exactly the entries of its replies, after all that it knew of and had seen.
  pub entered : Enters after why opening limit renews old new asked told
  -- With a front, what the session knows of are the front's entries.
  pub known : IfSome shown (λ front. edits_of front ≡ new.known)

-- The checkpoint let one submit pass, when the journal had so many entries and so many of the last were not published.
abbrev pub IsPassed : {G : Type 0} → (G → ℕ → ℕ → G → Type 0) → G → G → ℕ → ℕ → Type 0
IsPassed passed old new entries last = (published : ℕ) × (published + last ≤ entries) × passed old entries published new

-- The same by the end: where all is published, the journal had as many entries as the end tells; where an edit was out of memory, the checkpoint was not reached; where the publish was, the journal had some number of entries.
abbrev pub IsPassedBy : {G : Type 0} → (G → ℕ → ℕ → G → Type 0) → G → G → End → ℕ → Type 0
IsPassedBy passed old new end last = MatchEnd end (λ count. IsPassed passed old new count last) (new ≡ old) ((entries : ℕ) × IsPassed passed old new entries last)
