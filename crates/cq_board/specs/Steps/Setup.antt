-- Rows that are inserted into tables one after another.
use Rattle.std.specs.Prelude.{List, fold}
use Rattle.std.specs.List.{flat_map}
use Rattle.cq_atom.specs.Atom.{RowRecord}
use Rattle.cq_rel.specs.Tables.{Declaration, TablesRecord, rows_in, insert_fault, with_row}
use Rattle.cq_desk.specs.Replies.{AreAccepted}

-- The tables with the row.
abbrev pub row_put : TablesRecord → RowRecord → TablesRecord
row_put tables row = with_row row tables

-- Each of the rows can be inserted after those before it.
abbrev pub AreNew : TablesRecord → List RowRecord → Type 0
AreNew tables rows = AreAccepted row_put insert_fault tables rows

-- The tables with the rows, inserted one after another.
abbrev pub rows_put : TablesRecord → List RowRecord → TablesRecord
rows_put tables rows = fold row_put tables rows

-- The rows of these relations, one relation after another.
abbrev pub rows_of_all : TablesRecord → List Declaration → List RowRecord
rows_of_all tables declarations = flat_map (λ d. rows_in d.relation tables) declarations
