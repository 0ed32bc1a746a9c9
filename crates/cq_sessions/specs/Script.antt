-- The script that sessions leave: it tells in what order the entries came, and replays to the same board. (this project's profile)
use Rattle.std.specs.Prelude.{ℕ, ◌+◌, List, [], ◌∷◌, ◌++◌, Option, Some, None, codes, decimal}
use Rattle.std.specs.List.{flat_map}
use Rattle.cq_text.specs.Print.{printed_query, printed_row}
use Rattle.cq_text.specs.declared.form.Form.{Form}
use Rattle.cq_text.specs.declared.form.Form.TheVariants.{One, Two}
use Rattle.cq_rel.specs.Tables.{Declaration}
use Rattle.cq_board.specs.declared.limits.Limits.{Limits}
use Rattle.cq_atom.specs.declared.edit.EditKind.TheVariants.{Post, Withdraw, Insert, Delete}
use Rattle.cq_atom.specs.Edit.{Edit}
use Rattle.cq_desk.specs.declared.journal.Entry.{Entry}
use Rattle.cq_render.specs.Report.{line}

-- The line that asks for an edit, in printed form.
abbrev pub edit_line : Edit → List ℕ
edit_line (Post name query) = line (codes "post " ++ name ++ codes " " ++ printed_query query)
edit_line (Withdraw name) = line (codes "withdraw " ++ name)
edit_line (Insert row) = line (codes "insert " ++ printed_row row)
edit_line (Delete row) = line (codes "delete " ++ printed_row row)

-- An entry by its number and its session, and the line that asks for it.
abbrev pub entry_lines : ℕ → Entry Edit → List ℕ
entry_lines number entry = line (codes "# entry " ++ decimal number ++ codes " session " ++ decimal entry.author) ++ edit_line entry.edit

-- Entries one after another, the first of which has this number.
abbrev pub entries_from : ℕ → List (Entry Edit) → List ℕ
entries_from number [] = []
entries_from number (entry ∷ entries) = entry_lines number entry ++ entries_from (number + 1) entries

-- The line that declares a relation.
abbrev pub declaration_line : Declaration → List ℕ
declaration_line declared = line (codes "relation " ++ declared.relation ++ codes " " ++ decimal declared.arity)

-- The line that sets the limits.
abbrev pub limits_line : Limits → List ℕ
limits_line limits = line (codes "limits " ++ decimal limits.pool ++ codes " " ++ decimal limits.journal)

-- The form, where it is not the one that scripts begin in.
abbrev pub form_line : Form → List ℕ
form_line One = []
form_line Two = line (codes "board 2")

-- The reply of each line of a file, and none where a line has none.
abbrev pub Sheet : Type 0
Sheet = List (Option (List ℕ))

-- The replies of a file's lines, each after these words and its line's number; the first line has this number.
abbrev pub replies_from : List ℕ → ℕ → Sheet → List ℕ
replies_from words number [] = []
replies_from words number (None ∷ sheet) = replies_from words (number + 1) sheet
replies_from words number (Some reply ∷ sheet) = codes "# " ++ words ++ codes " line " ++ decimal number ++ codes " " ++ reply ++ replies_from words (number + 1) sheet

-- The replies of files one after another, the first of which is served by this session.
abbrev pub sheets_from : ℕ → List Sheet → List ℕ
sheets_from session [] = []
sheets_from session (sheet ∷ sheets) = replies_from (codes "session " ++ decimal session) 1 sheet ++ sheets_from (session + 1) sheets

-- The script: the form, relations and limits, the entries in order, a publish and a look, and all replies as comments.
abbrev pub script_of : Form → List Declaration → Limits → List (Entry Edit) → Sheet → List Sheet → List ℕ
script_of form catalog limits journal setup sheets =
    form_line form ++ flat_map declaration_line catalog ++ limits_line limits ++ entries_from 1 journal ++ codes "publish\nshow\n" ++ replies_from (codes "setup") 1 setup ++ sheets_from 0 sheets
