-- Why lines of a script are refused, in plain words. (this project's profile)
use Rattle.std.specs.Prelude.{◌≡◌, ℕ, ◌+◌, ◌-◌, ◌==◌, Bool, true, false, not, ◌||◌, ◌&&◌, nat_lt, nat_le, nat_eq, max, List, [], ◌∷◌, ◌++◌, length, map, fold, take, drop, codes, decimal, Option, Some, None, if◌then◌else◌}
use Rattle.std.specs.List.{enumerate_from, flat_map, list_all, list_any, position}
use Rattle.std.specs.Option.{option_map_or, unwrap_or}
use Rattle.std.specs.Str.{bytes_eq}
use Rattle.cq_atom.specs.Atom.{AtomRecord}
use Rattle.cq_atom.specs.declared.edit.EditKind.TheVariants as edits
use Rattle.cq_rel.specs.Tables.{Declaration, arity_in, relation_of}
use Rattle.cq_text.specs.Grammar.{CommandContent}
use Rattle.cq_text.specs.declared.command.CommandKind.TheVariants as kinds_of
use Rattle.cq_text.specs.declared.fault.Kind.{Kind}
use Rattle.cq_text.specs.declared.fault.Kind.TheVariants as kinds
use Rattle.cq_text.specs.declared.form.Form.{Form}
use Rattle.cq_text.specs.declared.form.Form.TheVariants.{One, Two}
use Rattle.cq_near.specs.Alike.{distance}
use Rattle.cq_render.specs.Explain.{ArePieces}
use Rattle.cq_board.specs.declared.edit.Why.{Why}
use Rattle.cq_board.specs.declared.edit.Why.TheVariants as whys
use Rattle.cq_board.specs.declared.limits.Limits.{Limits}
use Rattle.cq_rel.specs.declared.fault.CatalogFault.{CatalogFault}
use Rattle.cq_rel.specs.declared.fault.CatalogFault.TheVariants as catalogs
use Rattle.cq_report.specs.Reading.{Reading, Reads, Faulty, IsReading}
use Rattle.cq_report.specs.declared.refusal.Refusal.{Refusal}
use Rattle.cq_report.specs.declared.refusal.Refusal.TheVariants.{Text, Late, Catalog, InUse, TooManyPending, Pool, JournalFull, Unpublished, Memory}
use Rattle.cq_report.specs.Refusals.{refusal_words}
use Rattle.cq_report.specs.Reply.{refusal}
use Rattle.cq_report.specs.Machine.{State, form_in, next, staged}

-- ---- what was expected

-- A token that is tried at a place of a line, and the words for it.
abbrev pub Sample : Type 0
Sample = List ℕ × List ℕ

-- At the front of a line a command may stand.
abbrev pub commands : List Sample
commands =
    (codes "board", codes "board") ∷ (codes "relation", codes "relation") ∷ (codes "limits", codes "limits") ∷ (codes "post", codes "post") ∷ (codes "withdraw", codes "withdraw")
    ∷ (codes "insert", codes "insert") ∷ (codes "delete", codes "delete") ∷ (codes "publish", codes "publish") ∷ (codes "show", codes "show") ∷ []

-- Behind it each kind of token, or none.
abbrev pub tokens : List Sample
tokens =
    (codes "1", codes "a number") ∷ (codes "\"a\"", codes "a \"text\"") ∷ (codes "A", codes "a Capitalised name") ∷ (codes "a", codes "a lower-case name")
    ∷ (codes "{", codes "{") ∷ (codes "}", codes "}") ∷ (codes "(", codes "(") ∷ (codes ")", codes ")") ∷ (codes ",", codes ",") ∷ (codes "<-", codes "<-")
    ∷ ([], codes "the end of the line") ∷ []

-- A space, a tab or a carriage return.
abbrev pub is_gap : ℕ → Bool
is_gap byte = (byte == 32) || ((byte == 9) || (byte == 13))

-- Nothing but gaps stands in front of the place.
abbrev pub is_first : List ℕ → Bool
is_first front = list_all is_gap front

-- What is tried at the front of a line, and behind it.
abbrev pub samples : Bool → List Sample
samples true = commands
samples false = tokens

-- The front of a line, and the token behind it.
abbrev pub trial : List ℕ → List ℕ → List ℕ
trial front token = front ++ (codes " " ++ token)

-- The fault is of a variable that no atom of the body has.
abbrev pub is_of_unbound : Kind → Bool
is_of_unbound kinds.Token = false
is_of_unbound kinds.Text = false
is_of_unbound kinds.Number = false
is_of_unbound kinds.Shape = false
is_of_unbound kinds.Limit = false
is_of_unbound kinds.Unbound = true

-- The token may stand there: the trial is a command, or it has its first fault behind the front of the token, or it lacks nothing but an atom of the body with
-- a variable, which may follow a token and cannot follow the end of the line.
abbrev pub passes : (front token : List ℕ) → Reading → Bool
passes front token (Reads command) = true
passes front token (Faulty kind offset) = (is_of_unbound kind && not (length token == 0)) || nat_lt 1 (offset - length front)

-- The words of a token that may stand there, by the reading of its trial.
abbrev pub IsTried : Form → List ℕ → Sample → List (List ℕ) → Type 0
IsTried form front sample words = (reading : Reading) × IsReading form (trial front sample.0) reading × (words ≡ (if passes front sample.0 reading then sample.1 ∷ [] else []))

-- The words of the tokens that may stand behind the front of a line, by the grammar of commands.
abbrev pub AreExpected : Form → List ℕ → List (List ℕ) → Type 0
AreExpected form front words = ArePieces (IsTried form front) (samples (is_first front)) words

-- ---- in words

-- What stands in front of one of so many words, by its place.
abbrev pub separator : ℕ → ℕ → List ℕ
separator count place = if place == 0 then [] else (if count - place == 1 then codes " or " else codes ", ")

-- One of several: `a, b or c`.
abbrev pub one_of : List (List ℕ) → List ℕ
one_of words = flat_map (λ word. separator (length words) word.0 ++ word.1) (enumerate_from 0 words)

-- Letters, digits and `_` make words.
abbrev pub is_word_byte : ℕ → Bool
is_word_byte byte = (nat_le 48 byte && nat_le byte 57) || ((nat_le 65 byte && nat_le byte 90) || ((nat_le 97 byte && nat_le byte 122) || (byte == 95)))

-- How many bytes the word has that begins the rest of a line.
abbrev pub word_len : List ℕ → ℕ
word_len rest = unwrap_or (position (λ byte. not (is_word_byte byte)) rest) (length rest)

-- A byte as it is shown: itself where it is a character of ASCII that is seen, and else `?`.
abbrev pub shown_byte : ℕ → ℕ
shown_byte byte = if nat_le 32 byte && nat_le byte 126 then byte else 63

-- Bytes as they are shown.
abbrev pub shown : List ℕ → List ℕ
shown bytes = map shown_byte bytes

-- The word that begins the rest of a line, or else its first byte.
abbrev pub found : List ℕ → List ℕ
found rest = shown (take (max 1 (word_len rest)) rest)

-- A lower-case letter begins it, as it begins a variable.
abbrev pub is_lower : List ℕ → Bool
is_lower [] = false
is_lower (byte ∷ bytes) = nat_le 97 byte && nat_le byte 122

-- What was found: nothing, a variable where a constant may stand, or something else.
abbrev pub found_words : List (List ℕ) → List ℕ → List ℕ
found_words words [] = codes "the line ends"
found_words words (byte ∷ bytes) =
    if is_lower (byte ∷ bytes) && list_any (bytes_eq (codes "a \"text\"")) words then found (byte ∷ bytes) ++ codes " is a variable" else codes "found " ++ found (byte ∷ bytes)

-- The closer one: one that is within two changes, where there is none yet, or one that is closer than that.
abbrev pub closer : List ℕ → Option (List ℕ) → List ℕ → Option (List ℕ)
closer word None name = if nat_le (distance word name) 2 then Some name else None
closer word (Some best) name = if nat_lt (distance word name) (distance word best) then Some name else Some best

-- The first of the names that are closest to the word, where one is within two changes.
abbrev pub closest : List ℕ → List (List ℕ) → Option (List ℕ)
closest word names = fold (closer word) None names

-- The word that may have been meant, if there is one.
abbrev pub meant : Option (List ℕ) → List ℕ
meant None = []
meant (Some name) = codes "; did you mean " ++ (name ++ codes "?")

-- A word that is no command, and the command that may have been meant.
abbrev pub no_command_words : List (List ℕ) → List ℕ → List ℕ
no_command_words words rest = found rest ++ (codes ": no such command" ++ meant (closest (found rest) words))

-- What the form allows.
abbrev pub limit_words : Form → List ℕ
limit_words One = codes "form 1 has names of up to 32 characters, up to 8 terms to an atom, 8 atoms to a part of a query, 131072 bytes to a line, and counts from 1"
limit_words Two = codes "form 2 has names of up to 32 characters, up to 16 terms to an atom, 16 atoms to a part of a query, 524288 bytes to a line, and counts from 1"

-- The tokens that may stand there, or that none may, since each would be past a limit of the form.
abbrev pub expected_words : Form → List (List ℕ) → List ℕ
expected_words form [] = codes "nothing may follow: " ++ limit_words form
expected_words form (word ∷ words) = codes "expected " ++ one_of (word ∷ words)

-- Something else than what was expected.
abbrev pub unexpected_words : Form → List (List ℕ) → List ℕ → List ℕ
unexpected_words form words rest = expected_words form words ++ (codes "; " ++ found_words words rest)

-- A token that may not stand there: a word that is no command, or something else than what was expected.
abbrev pub shape_words : Bool → Form → List (List ℕ) → List ℕ → List ℕ
shape_words true form words rest = no_command_words words rest
shape_words false form words rest = unexpected_words form words rest

-- A word stands at the front of a line.
abbrev pub is_no_command : List ℕ → List ℕ → Bool
is_no_command front rest = is_first front && not (word_len rest == 0)

-- A byte order mark stands in front of the line.
abbrev pub is_mark : (front rest : List ℕ) → Bool
is_mark front rest = (length front == 0) && bytes_eq (take 3 rest) (239 ∷ 187 ∷ 191 ∷ [])

-- A byte that begins no token, or such a mark.
abbrev pub token_words : Bool → List ℕ → List ℕ
token_words true rest = codes "a byte order mark, with which no script begins"
token_words false rest = found rest ++ codes ": begins no token"

-- What is wrong at a place, by the kind of the fault there.
abbrev pub IsHint : Form → Kind → (front rest : List ℕ) → List ℕ → Type 0
IsHint form kinds.Token front rest text = text ≡ token_words (is_mark front rest) rest
IsHint form kinds.Text front rest text = text ≡ codes "a text ends with \", has up to 255 bytes of UTF-8 without control characters, and \\ before \" and \\ alone"
IsHint form kinds.Number front rest text = text ≡ codes "a number is from -9223372036854775808 to 9223372036854775807, without + or a zero in front"
IsHint form kinds.Shape front rest text = (words : List (List ℕ)) × AreExpected form front words × (text ≡ shape_words (is_no_command front rest) form words rest)
IsHint form kinds.Limit front rest text = text ≡ limit_words form
IsHint form kinds.Unbound front rest text = text ≡ found rest ++ codes ": no atom of the body has this variable"

-- ---- lines

-- The line around the place, which `^` marks: up to 40 bytes on each side.
abbrev pub excerpt : (front rest : List ℕ) → List ℕ
excerpt front rest = shown (drop (length front - 40) front) ++ (codes "^" ++ shown (take 40 rest))

-- The line that tells what is wrong at a place of a line of that number.
abbrev pub why_line : List ℕ → ℕ → List ℕ → (front rest : List ℕ) → List ℕ
why_line origin number words front rest =
    codes "board: " ++ (origin ++ (codes "line " ++ (decimal number ++ (codes ": " ++ (words ++ (codes ": " ++ (excerpt front rest ++ codes "\n")))))))

-- A relation that a command names, with how many terms or values.
abbrev pub Use : Type 0
Use = List ℕ × ℕ

-- The relations of a body.
abbrev pub uses_of_body : List AtomRecord → List Use
uses_of_body body = map (λ atom. (atom.relation, length atom.terms)) body

-- The relations of the database that a command names.
abbrev pub uses_of : CommandContent → List Use
uses_of (kinds_of.Edit (edits.Post name query)) = uses_of_body query.body
uses_of (kinds_of.Edit (edits.Withdraw name)) = []
uses_of (kinds_of.Edit (edits.Insert row)) = (row.relation, length row.values) ∷ []
uses_of (kinds_of.Edit (edits.Delete row)) = (row.relation, length row.values) ∷ []
uses_of kinds_of.Blank = []
uses_of (kinds_of.Setup line) = []
uses_of kinds_of.Publish = []
uses_of kinds_of.Show = []

-- The relation is declared with as many columns.
abbrev pub has_place : List Declaration → Use → Bool
has_place catalog used = option_map_or (nat_eq used.1) (arity_in catalog used.0) false

-- The first relation that has no place in the catalog.
abbrev pub misused : List Declaration → List Use → Option Use
misused catalog [] = None
misused catalog (used ∷ more) = if has_place catalog used then misused catalog more else Some used

-- One column, or several.
abbrev pub columns : ℕ → List ℕ
columns count = if count == 1 then codes " column, " else codes " columns, "

-- A relation that is not declared, or has another number of columns.
abbrev pub misuse_words : List Declaration → Use → Option ℕ → List ℕ
misuse_words catalog used None = used.0 ++ (codes ": no such relation" ++ meant (closest used.0 (map relation_of catalog)))
misuse_words catalog used (Some count) = used.0 ++ (codes " has " ++ (decimal count ++ (columns count ++ (decimal used.1 ++ codes " given"))))

-- One query, or several; one entry, or several.
abbrev pub queries_word : ℕ → List ℕ
queries_word count = if count == 1 then codes "query is" else codes "queries are"

-- One entry, or several.
abbrev pub entries_word : ℕ → List ℕ
entries_word count = if count == 1 then codes "entry" else codes "entries"

-- So many queries are pending, or entries in the journal, as there may be at most.
abbrev pub pool_full : ℕ → List ℕ
pool_full most = decimal most ++ (codes " " ++ (queries_word most ++ codes " pending, which is the limit; see limits"))

-- So many entries are in the journal as there may be at most.
abbrev pub journal_full : ℕ → List ℕ
journal_full most = codes "the journal has " ++ (decimal most ++ (codes " " ++ (entries_word most ++ codes ", which is the limit; see limits")))

-- Why a relation is not declared, in plainer words than those of the reply, if there are any.
abbrev pub plain_catalog : CatalogFault → List ℕ
plain_catalog catalogs.BadName = refusal_words (Catalog catalogs.BadName)
plain_catalog catalogs.BadArity = refusal_words (Catalog catalogs.BadArity)
plain_catalog catalogs.Declared = codes "the relation is declared already"
plain_catalog catalogs.CatalogFull = codes "64 relations are declared, which is the most"
plain_catalog catalogs.NoMemory = refusal_words (Catalog catalogs.NoMemory)

-- Why the pool refuses an edit, likewise, under these limits.
abbrev pub plain_pool : Limits → Why → List ℕ
plain_pool limits whys.PoolFull = pool_full limits.pool
plain_pool limits whys.NameTaken = codes "a query of this name is pending"
plain_pool limits (whys.NotAnswer part place) = codes "heads and postconditions name no relation of the database"
plain_pool limits (whys.UnknownRelation place) = refusal_words (Pool (whys.UnknownRelation place))
plain_pool limits (whys.Arity place) = refusal_words (Pool (whys.Arity place))
plain_pool limits whys.NoSuchName = codes "no query of this name is pending"
plain_pool limits whys.RowPresent = codes "the row is there already"
plain_pool limits whys.RowAbsent = codes "there is no such row"

-- Why a command is refused, likewise.
abbrev pub plain : Limits → Refusal → List ℕ
plain limits (Text kind offset) = refusal_words (Text kind offset)
plain limits Late = codes "the setup is over, or the form is settled"
plain limits (Catalog fault) = plain_catalog fault
plain limits (Pool why) = plain_pool limits why
plain limits JournalFull = journal_full limits.journal
plain limits InUse = refusal_words InUse
plain limits TooManyPending = refusal_words TooManyPending
plain limits Unpublished = refusal_words Unpublished
plain limits Memory = refusal_words Memory

-- The pool refuses an edit since a relation is not declared, or has another number of columns.
abbrev pub is_misuse : Why → Bool
is_misuse whys.PoolFull = false
is_misuse whys.NameTaken = false
is_misuse (whys.NotAnswer part place) = false
is_misuse (whys.UnknownRelation place) = true
is_misuse (whys.Arity place) = true
is_misuse whys.NoSuchName = false
is_misuse whys.RowPresent = false
is_misuse whys.RowAbsent = false

-- The same of a refusal.
abbrev pub is_of_relation : Refusal → Bool
is_of_relation (Text kind offset) = false
is_of_relation Late = false
is_of_relation (Catalog fault) = false
is_of_relation (Pool why) = is_misuse why
is_of_relation JournalFull = false
is_of_relation InUse = false
is_of_relation TooManyPending = false
is_of_relation Unpublished = false
is_of_relation Memory = false

-- Why a command is refused: for its first misused relation, or in the words of its reply.
abbrev pub command_words : Limits → List Declaration → Option Use → Refusal → List ℕ
command_words limits catalog None why = plain limits why
command_words limits catalog (Some used) why = if is_of_relation why then misuse_words catalog used (arity_in catalog used.0) else plain limits why

-- The line that tells of a command, if it is refused.
abbrev pub command_line : List ℕ → ℕ → Limits → List Declaration → Option Use → List ℕ → Option Refusal → List ℕ
command_line origin number limits catalog used line None = []
command_line origin number limits catalog used line (Some why) =
    codes "board: " ++ (origin ++ (codes "line " ++ (decimal number ++ (codes ": " ++ (command_words limits catalog used why ++ (codes ": " ++ (shown (take 40 line) ++ codes "\n")))))))

-- What is told of a line, by its reading, and why it is refused, where it is.
abbrev pub IsWhy : List ℕ → ℕ → Limits → List Declaration → Form → List ℕ → Option Refusal → Reading → List ℕ → Type 0
IsWhy origin number limits catalog form line refused (Reads command) text = text ≡ command_line origin number limits catalog (misused catalog (uses_of command)) line refused
IsWhy origin number limits catalog form line refused (Faulty kind offset) text =
    (words : List ℕ) × IsHint form kind (take offset line) (drop offset line) words × (text ≡ why_line origin number words (take offset line) (drop offset line))

-- What is told of lines, under these limits and over these relations, after others that left this state.
abbrev pub AreWhys : List ℕ → Limits → List Declaration → State → List (List ℕ) → List ℕ → Type 0
AreWhys origin limits catalog state [] text = text ≡ []
AreWhys origin limits catalog state (line ∷ lines) text =
    (reading : Reading) × IsReading (form_in state) line reading
    × (piece : List ℕ) × IsWhy origin (state.lines + 1) limits catalog (form_in state) line (refusal (staged state.stage state.heading reading).1) reading piece
    × (rest : List ℕ) × AreWhys origin limits catalog (next state reading) lines rest × (text ≡ piece ++ rest)
