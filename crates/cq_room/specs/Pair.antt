-- What contracts see of a pair. (this project's profile)
use Rattle.std.specs.Prelude.{List, [], ◌∷◌}
use Rattle.cq_desk.specs.History.{History}
use Rattle.cq_desk.specs.declared.journal.Entry.{Entry}

-- The content before the first edit, the publications with those whose publish was refused, the publications that are shown, and the entries that stand in no publication yet.
pub record PairRecord (E C : Type 0) : Type 0 where
  pub opening : C
  pub history : History (Entry E)
  pub shown : History (Entry E)
  pub pending : List (Entry E)

-- The opening content of a room's name; where there is none, this one.
abbrev pub opening_or : {C : Type 0} → C → List C → C
opening_or other (o ∷ os) = o
opening_or other [] = other
