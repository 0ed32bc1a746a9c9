-- What a step adds to the marks. (this project's profile)
use Rattle.std.specs.Prelude.{◌≡◌, List, [], ◌∷◌, ◌++◌, Option, Some, None}
use Rattle.cq_desk.specs.declared.journal.Entry.{Entry}
use Rattle.cq_room.specs.declared.mark.Mark.{Mark}
use Rattle.cq_room.specs.declared.mark.Mark.TheVariants.{Entered, Cut}

-- The last mark is this entry; where there is none, it ends a publication.
abbrev pub Ends : {E : Type 0} → List (Mark E) → Option (Entry E) → Type 0
Ends {E} marks (Some e) = (rest : List (Mark E)) × (marks ≡ rest ++ Entered e ∷ [])
Ends {E} marks None = (rest : List (Mark E)) × (marks ≡ rest ++ Cut ∷ [])
