-- The first atom of a body that no row fits, and the row that is nearest to it. (this project's profile)
use Rattle.std.specs.Prelude.{ℕ, Bool, false, not, nat_lt, List, [], length, map, filter, zip, fold, if◌then◌else◌, Option, Some, None}
use Rattle.std.specs.List.{slice_get, list_all, list_any, position, find}
use Rattle.std.specs.Option.{option_map, option_map_or, option_and_then}
use Rattle.std.specs.Ordering.{is_eq}
use Rattle.cq_atom.specs.declared.term.TermKind.TheVariants.{Constant, Variable}
use Rattle.cq_atom.specs.Value.{ValueContent}
use Rattle.cq_atom.specs.Atom.{TermContent, AtomRecord, RowRecord, constant_of}
use Rattle.cq_atom.specs.Query.{is_variable}
use Rattle.cq_rel.specs.Tables.{TablesRecord, value_order, rows_in}
use Rattle.cq_near.specs.declared.unfit.Unfit.{Unfit}
use Rattle.cq_near.specs.Alike.{apart}

-- The value at the first place of a variable.
abbrev pub first_value : List TermContent → List ValueContent → List ℕ → Option ValueContent
first_value terms values name = option_and_then (slice_get values) (position (is_variable name) terms)

-- The value that a row is to have where a term stands: the constant, or what it has at the first place of the variable.
abbrev pub wanted_at : List TermContent → List ValueContent → TermContent → Option ValueContent
wanted_at terms values (Constant c) = Some c
wanted_at terms values (Variable x) = first_value terms values x

-- The value is not the one that the row is to have there.
abbrev pub is_strange : List TermContent → List ValueContent → TermContent × ValueContent → Bool
is_strange terms values place = option_map_or (λ wanted. not (is_eq (value_order wanted place.1))) (wanted_at terms values place.0) false

-- The values for which a row does not fit an atom.
abbrev pub strange : List TermContent → List ValueContent → List ValueContent
strange terms values = map (λ place. place.1) (filter (is_strange terms values) (zip terms values))

-- A row fits an atom, whose terms become its values.
abbrev pub fits : List TermContent → List ValueContent → Bool
fits terms values = list_all (λ place. not (is_strange terms values place)) (zip terms values)

-- Some row fits the atom.
abbrev pub is_found : TablesRecord → AtomRecord → Bool
is_found tables atom = list_any (λ row. fits atom.terms row.values) (rows_in atom.relation tables)

-- How far a row is from the constants of an atom.
abbrev pub row_apart : List TermContent → RowRecord → ℕ
row_apart terms row = apart (map constant_of terms) (map Some row.values)

-- The nearer one of the nearest row so far and another one, with how far it is.
abbrev pub nearer : List TermContent → Option (ℕ × RowRecord) → RowRecord → Option (ℕ × RowRecord)
nearer terms None row = Some (row_apart terms row, row)
nearer terms (Some best) row = if nat_lt (row_apart terms row) best.0 then Some (row_apart terms row, row) else Some best

-- The first of the rows that are nearest, with how far it is.
abbrev pub nearest : List TermContent → List RowRecord → Option (ℕ × RowRecord)
nearest terms rows = fold (nearer terms) None rows

-- An atom that no row fits: how many rows its relation has, and for which values the nearest one does not.
abbrev pub lack : TablesRecord → AtomRecord → Unfit AtomRecord (List ValueContent)
lack tables atom =
    let rows = rows_in atom.relation tables in
    record { atom = atom; rows = length rows; near = option_map_or (λ best. strange atom.terms best.1.values) (nearest atom.terms rows) [] }

-- The first atom of the body that no row fits, if there is one.
abbrev pub first_unfit : TablesRecord → List AtomRecord → Option (Unfit AtomRecord (List ValueContent))
first_unfit tables body = option_map (lack tables) (find (λ atom. not (is_found tables atom)) body)

-- The same, with the atom and the values read.
abbrev pub unfit_read : {T V : Type 0} → (T → AtomRecord) → (V → List ValueContent) → Unfit T V → Unfit AtomRecord (List ValueContent)
unfit_read atom values found = record { atom = atom found.atom; rows = found.rows; near = values found.near }
