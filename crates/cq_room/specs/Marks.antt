-- What the marks of a history say. (this project's profile)
use Rattle.std.specs.Prelude.{◌≡◌, List, [], ◌∷◌, ◌++◌, Option, fold}
use Rattle.cq_desk.specs.History.{History}
use Rattle.cq_desk.specs.Replies.{AreAccepted, journal_edits}
use Rattle.cq_desk.specs.declared.journal.Entry.{Entry}
use Rattle.cq_room.specs.declared.mark.Mark.{Mark}
use Rattle.cq_room.specs.declared.mark.Mark.TheVariants.{Entered, Cut}

-- All entries of the marks, in order.
abbrev pub entries_in : {E : Type 0} → List (Mark E) → List (Entry E)
entries_in [] = []
entries_in (Entered e ∷ marks) = e ∷ entries_in marks
entries_in (Cut ∷ marks) = entries_in marks

-- The entries after the last cut, where these stand before the marks.
abbrev pub behind : {E : Type 0} → List (Entry E) → List (Mark E) → List (Entry E)
behind es [] = es
behind es (Entered e ∷ marks) = behind (es ++ e ∷ []) marks
behind es (Cut ∷ marks) = behind [] marks

-- The publications, where these entries stand before the marks. Entries after the last cut are in none.
abbrev pub cut_at : {E : Type 0} → List (Entry E) → List (Mark E) → History (Entry E)
cut_at es [] = []
cut_at es (Entered e ∷ marks) = cut_at (es ++ e ∷ []) marks
cut_at es (Cut ∷ marks) = es ∷ cut_at [] marks

-- The publications of a room, by its marks from the first one.
abbrev pub publications : {E : Type 0} → List (Mark E) → History (Entry E)
publications marks = cut_at [] marks

-- The entries that no publication has yet.
abbrev pub fresh_in : {E : Type 0} → List (Mark E) → List (Entry E)
fresh_in marks = behind [] marks

-- The content is what the edits of the entries leave over the opening content. A room's name has one opening content.
abbrev pub Leaves : {E C : Type 0} → (C → E → C) → List C → List (Entry E) → C → Type 0
Leaves {E} {C} after opening entries content = (o : C) → opening ≡ o ∷ [] → content ≡ fold after o (journal_edits entries)

-- The edit of each entry is accepted where it comes, over the opening content. A room's name has one opening content.
abbrev pub WereAccepted : {E C W : Type 0} → (C → E → C) → (C → E → Option W) → List C → List (Entry E) → Type 0
WereAccepted {E} {C} after why opening entries = (o : C) → opening ≡ o ∷ [] → AreAccepted after why o (journal_edits entries)
