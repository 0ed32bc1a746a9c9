-- The printed form of values, terms, atoms, rows, queries and commands. (this project's profile)
use Rattle.std.specs.Prelude.{ℕ, Bool, ◌≤◌, length, List, [], ◌∷◌, ◌++◌, codes, if◌then◌else◌, ◌||◌, ◌==◌}
use Rattle.std.specs.Fmt.{signed_decimal, decimal}
use Rattle.std.specs.List.{flat_map, join_by, AllByRecursion}
use Rattle.cq_atom.specs.declared.value.Content.TheVariants.{Number, Text}
use Rattle.cq_atom.specs.declared.term.TermKind.TheVariants.{Constant, Variable}
use Rattle.cq_atom.specs.Value.{ValueContent}
use Rattle.cq_atom.specs.Atom.{TermContent, AtomRecord, RowRecord}
use Rattle.cq_atom.specs.Query.{QueryRecord}
use Rattle.cq_text.specs.Token.{tokens_of}
use Rattle.cq_text.specs.Lexing.{lexemes_of}
use Rattle.cq_text.specs.Grammar.{CommandContent, IsAtomText, IsShort, FewTerms}
use Rattle.cq_text.specs.declared.form.Form.{Form}
use Rattle.cq_text.specs.declared.command.CommandKind.TheVariants.{Blank, Setup, Edit, Publish, Show}
use Rattle.cq_text.specs.declared.command.SetupLine.TheVariants.{Relation, Board, Limits}
use Rattle.cq_atom.specs.declared.edit.EditKind.TheVariants.{Post, Withdraw, Insert, Delete}
use Rattle.cq_text.specs.Forms.{most_bytes, number_of_form}

-- The byte `"`.
abbrev pub quote_mark : ℕ
quote_mark = 34

-- The byte `\`.
abbrev pub backslash : ℕ
backslash = 92

-- A quote or a backslash.
abbrev pub is_escaped : ℕ → Bool
is_escaped b = (b == quote_mark) || (b == backslash)

-- A backslash goes before a quote and before a backslash.
abbrev pub escaped_byte : ℕ → List ℕ
escaped_byte b = if is_escaped b then backslash ∷ b ∷ [] else b ∷ []

-- A text as it stands between quotes.
abbrev pub escaped : List ℕ → List ℕ
escaped text = flat_map escaped_byte text

-- A text stands between quotes, with its quotes and backslashes escaped.
abbrev pub printed_text : List ℕ → List ℕ
printed_text text = (quote_mark ∷ escaped text) ++ (quote_mark ∷ [])

-- A number is printed in decimal, a text always quoted.
abbrev pub printed_value : ValueContent → List ℕ
printed_value (Number n) = signed_decimal n
printed_value (Text text) = printed_text text

-- A constant is printed as its value, a variable as its name.
abbrev pub printed_term : TermContent → List ℕ
printed_term (Constant value) = printed_value value
printed_term (Variable name) = name

-- `R(a, b)`: the relation's name, and its arguments in brackets, with a comma and a space between two.
abbrev pub printed_atom : AtomRecord → List ℕ
printed_atom a = a.relation ++ codes "(" ++ join_by printed_term (codes ", ") a.terms ++ codes ")"

-- `R(1, "a")`: a row in the same form.
abbrev pub printed_row : RowRecord → List ℕ
printed_row r = r.relation ++ codes "(" ++ join_by printed_value (codes ", ") r.values ++ codes ")"

-- `(1, "a")`: values in brackets.
abbrev pub printed_values : List ValueContent → List ℕ
printed_values values = codes "(" ++ join_by printed_value (codes ", ") values ++ codes ")"

-- Atoms with a comma and a space between two.
abbrev pub printed_atoms : List AtomRecord → List ℕ
printed_atoms atoms = join_by printed_atom (codes ", ") atoms

-- The atoms after a space, or nothing where there are none.
abbrev pub printed_body : List AtomRecord → List ℕ
printed_body [] = []
printed_body (a ∷ rest) = codes " " ++ printed_atoms (a ∷ rest)

-- `{posts} heads <- body`
abbrev pub printed_query : QueryRecord → List ℕ
printed_query q = codes "{" ++ printed_atoms q.posts ++ codes "} " ++ printed_atoms q.heads ++ codes " <-" ++ printed_body q.body

-- The text is no longer than a line may be, and its tokens are those of the atom, within the limits.
abbrev pub StandsForAtom : (form : Form) → List ℕ → AtomRecord → Type 0
StandsForAtom form text a = (length text ≤ most_bytes form) × IsAtomText (tokens_of (lexemes_of text)) a × AllByRecursion IsShort (tokens_of (lexemes_of text)) × FewTerms form a

-- A command as a line of a script, without the end of the line: its word, then its names, numbers, query or row, with a space before each.
abbrev pub printed_command : CommandContent → List ℕ
printed_command Blank = []
printed_command (Setup (Relation name arity)) = codes "relation " ++ name ++ codes " " ++ decimal arity
printed_command (Setup (Board form)) = codes "board " ++ decimal (number_of_form form)
printed_command (Setup (Limits pool journal)) = codes "limits " ++ decimal pool ++ codes " " ++ decimal journal
printed_command (Edit (Post name query)) = codes "post " ++ name ++ codes " " ++ printed_query query
printed_command (Edit (Withdraw name)) = codes "withdraw " ++ name
printed_command (Edit (Insert row)) = codes "insert " ++ printed_row row
printed_command (Edit (Delete row)) = codes "delete " ++ printed_row row
printed_command Publish = codes "publish"
printed_command Show = codes "show"
