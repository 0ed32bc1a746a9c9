-- What contracts see of a publisher over one state, and what its type says. (this project's profile)
use Rattle.std.specs.Prelude.{◌≡◌, ℕ, ◌≤◌, List, [], ◌∷◌, length, fold, take, drop}
use Rattle.cq_desk.specs.History.{History, edits_of}
use Rattle.cq_desk.specs.Replies.{journal_edits}
use Rattle.cq_desk.specs.declared.journal.Entry.{Entry}

-- The content before the first edit, the publications, and the entries that stand in none yet.
pub record PlainRecord (C E : Type 0) : Type 0 where
  pub opening : C
  pub history : History (Entry E)
  pub pending : List (Entry E)

-- The publications that a list is cut into by the lengths that it had at the publishes, from this length on.
abbrev pub cut_at : {E : Type 0} → ℕ → List ℕ → List E → History E
cut_at start [] es = []
cut_at start (end ∷ lengths) es = drop start (take end es) ∷ cut_at end lengths es

-- The length at the last publish.
abbrev pub last_length : ℕ → List ℕ → ℕ
last_length start [] = start
last_length start (end ∷ lengths) = last_length end lengths

-- None of the lengths is above this one.
abbrev pub AreWithin : ℕ → List ℕ → Type 0
AreWithin most [] = Unit {0}
AreWithin most (n ∷ lengths) = (n ≤ most) × AreWithin most lengths

-- The shown content is what the edits of the published entries leave, the next one what as many leave as it took in.
pub record IsPublished {C E : Type 0} (after : C → E → C) (opening shown next : C) (js : List (Entry E)) (lengths : List ℕ) (published taken : ℕ) : Type 0 where
  pub shows : shown ≡ fold after opening (journal_edits (take published js))
  pub follows : next ≡ fold after opening (journal_edits (take taken js))
  pub cuts : edits_of (cut_at 0 lengths js) ≡ take published js
  pub last : last_length 0 lengths ≡ published
  pub published_within : published ≤ length js
  pub taken_within : taken ≤ length js
  pub lengths_within : AreWithin (length js) lengths
