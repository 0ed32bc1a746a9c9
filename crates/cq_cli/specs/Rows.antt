-- Insert lines from CSV. (this project's profile)
use Rattle.std.specs.Prelude.{◌≡◌, ◌==◌, ℕ, Bool, ◌++◌, ◌+◌, ◌-◌, List, [], ◌∷◌, codes, map, Option, Some, None, Result, Ok, Err, nat_le, ◌&&◌, ◌||◌, not, false, if◌then◌else◌, flat_map}
use Rattle.std.specs.List.{list_any}
use Rattle.std.specs.Option.{is_some}
use Rattle.std.specs.Io.KnownBytes.{Appends}
use Rattle.cq_devices.specs.Device.{TakesFront}
use Rattle.cq_atom.specs.Text.{is_relation_name}
use Rattle.cq_atom.specs.Atom.{RowRecord}
use Rattle.cq_atom.specs.Value.{number_of}
use Rattle.cq_text.specs.Print.{printed_row}
use Rattle.cq_csv.specs.declared.fault.CsvFault.{CsvFault}
use Rattle.cq_csv.specs.declared.fault.CsvFault.TheVariants as csv
use Rattle.cq_csv.specs.Csv.{AreGood, IsFirstFault, csv_records, row_of_record}
use Rattle.cq_csv.specs.declared.layout.Layout.{Layout}
use Rattle.cq_cli.specs.declared.rows.Hint.{Hint}
use Rattle.cq_cli.specs.declared.rows.Sheet.{Sheet}
use Rattle.cq_cli.specs.declared.rows.SheetWords.{SheetWords}
use Rattle.cq_cli.specs.declared.rows.RowsFault.{RowsFault}
use Rattle.cq_cli.specs.declared.rows.RowsFault.TheVariants.{BadName, BadArity, BadDelimiter, Read, Write, Width, Text, NoMemory}

-- A digit from `1` to `9`.
abbrev pub is_arity_digit : ℕ → Bool
is_arity_digit b = nat_le 49 b && nat_le b 57

-- The digit `1`, and one from `0` to `6` after it.
abbrev pub are_arity_digits : ℕ → ℕ → Bool
are_arity_digits b c = (b == 49) && (nat_le 48 c && nat_le c 54)

-- An arity is written in decimal, from 1 to 16, without a zero in front and with nothing beside it.
abbrev pub arity_of : List ℕ → Option ℕ
arity_of [] = None
arity_of (b ∷ []) = if is_arity_digit b then Some (b - 48) else None
arity_of (b ∷ c ∷ []) = if are_arity_digits b c then Some (10 + (c - 48)) else None
arity_of (b ∷ c ∷ d ∷ rest) = None

-- A byte that may stand between fields: a tab, or a printable one of ASCII that is no quote.
abbrev pub is_delimiter : ℕ → Bool
is_delimiter b = (b == 9) || (nat_le 32 b && (nat_le b 126 && not (b == 34)))

-- The byte that a word stands for: that byte, or `\t` for a tab.
abbrev pub delimiter_of : List ℕ → Option ℕ
delimiter_of [] = None
delimiter_of (b ∷ []) = if is_delimiter b then Some b else None
delimiter_of (b ∷ c ∷ []) = if (b == 92) && (c == 116) then Some 9 else None
delimiter_of (b ∷ c ∷ d ∷ rest) = None

-- What is asked for by an arity and a byte between fields, or what is wrong with the words for them: the arity is tested first.
abbrev pub sheet_or_fault : Option ℕ → Option ℕ → Bool → Result Sheet RowsFault
sheet_or_fault None delimiter has_header = Err BadArity
sheet_or_fault (Some arity) None has_header = Err BadDelimiter
sheet_or_fault (Some arity) (Some delimiter) has_header = Ok (record { arity = arity; layout = record { delimiter = delimiter; has_header = has_header } })

-- What the words of `rows` ask for: the relation's name is tested before the others.
abbrev pub wanted_sheet : SheetWords → Result Sheet RowsFault
wanted_sheet words =
    if is_relation_name words.relation.now then sheet_or_fault (arity_of words.arity.now) (delimiter_of words.delimiter.now) words.has_header else Err BadName

-- The line that inserts a row: the command's word, the printed row, and LF.
abbrev pub insert_line : RowRecord → List ℕ
insert_line row = codes "insert " ++ (printed_row row ++ codes "\n")

-- One insert line for each row, in order, doubles included.
abbrev pub rows_output : List RowRecord → List ℕ
rows_output rows = flat_map insert_line rows

-- How a fault of reading CSV is reported: that of a width with the arity that was wanted.
abbrev pub told : CsvFault → ℕ → RowsFault
told csv.BadName arity = BadName
told csv.BadArity arity = BadArity
told (csv.Device turn) arity = Read turn
told (csv.Width line index fields) arity = Width line index arity fields
told (csv.Text line index field flaw) arity = Text line index field flaw
told csv.NoMemory arity = NoMemory

-- The rows of the records of bytes.
abbrev pub rows_of : (relation : List ℕ) → Layout → (bytes : List ℕ) → List RowRecord
rows_of relation layout bytes = map (row_of_record relation) (csv_records layout bytes)

-- What `rows` makes of bytes of CSV: where no record is at fault the insert lines of the records' rows, else the fault of the first record at fault, with a line in
-- which that record begins.
abbrev pub IsRowsAnswer : (relation : List ℕ) → Sheet → (bytes : List ℕ) → Result (List ℕ) RowsFault → Type 0
IsRowsAnswer relation sheet bytes (Ok lines) = AreGood sheet.arity (csv_records sheet.layout bytes) × (lines ≡ rows_output (rows_of relation sheet.layout bytes))
IsRowsAnswer relation sheet bytes (Err fault) = (first : CsvFault) × IsFirstFault sheet.arity sheet.layout bytes first × (fault ≡ told first sheet.arity)

-- A value is a number.
abbrev pub has_number : RowRecord → Bool
has_number row = list_any (λ value. is_some (number_of value)) row.values

-- The first row seems to be a header: it has no number, and the second one has.
abbrev pub seem_headed : List RowRecord → Bool
seem_headed [] = false
seem_headed (first ∷ []) = false
seem_headed (first ∷ second ∷ rows) = not (has_number first) && has_number second

-- What is told beside rows: that the first of them seems to be a header, where none was to be left out; that a script needs form 2, which relations of more than 8
-- columns do.
abbrev pub hint_of : Sheet → List RowRecord → Hint
hint_of sheet rows = record { seems_headed = not sheet.layout.has_header && seem_headed rows; needs_form_two = not (nat_le sheet.arity 8) }

-- What holds of a fault, by whose it is: of the words, of the reader by its turn, of the writer, of a record, of memory.
abbrev pub MatchFault : RowsFault → (words : Type 0) → (reader : ℕ → Type 0) → (writer of_record of_memory : Type 0) → Type 0
MatchFault BadName words reader writer of_record of_memory = words
MatchFault BadArity words reader writer of_record of_memory = words
MatchFault BadDelimiter words reader writer of_record of_memory = words
MatchFault (Read turn) words reader writer of_record of_memory = reader turn
MatchFault Write words reader writer of_record of_memory = writer
MatchFault (Width line index arity fields) words reader writer of_record of_memory = of_record
MatchFault (Text line index field flaw) words reader writer of_record of_memory = of_record
MatchFault NoMemory words reader writer of_record of_memory = of_memory

-- The fault is that of a read.
abbrev pub IsOfReader : RowsFault → Type 0
IsOfReader fault = MatchFault fault ⊥ (λ turn. Unit {0}) ⊥ ⊥ ⊥

-- The fault is that of writing.
abbrev pub IsOfWriter : RowsFault → Type 0
IsOfWriter fault = MatchFault fault ⊥ (λ turn. ⊥) (Unit {0}) ⊥ ⊥

-- How much the writer's failures rise with a fault: by one with its own, and else not.
abbrev pub failures_of : RowsFault → ℕ
failures_of BadName = 0
failures_of BadArity = 0
failures_of BadDelimiter = 0
failures_of (Read turn) = 0
failures_of Write = 1
failures_of (Width line index arity fields) = 0
failures_of (Text line index field flaw) = 0
failures_of NoMemory = 0

-- The writer took the lines of the bytes' records, all of which are good.
pub record WroteLines (relation : List ℕ) (sheet : Sheet) (bytes : List ℕ) (taken taken' : Option (List ℕ)) : Type 0 where
  pub lines : List ℕ
  pub good : IsRowsAnswer relation sheet bytes (Ok lines)
  pub wrote : Appends taken taken' lines

-- The writer took a front of these lines.
pub record WroteFront (relation : List ℕ) (sheet : Sheet) (bytes : List ℕ) (taken taken' : Option (List ℕ)) : Type 0 where
  pub lines : List ℕ
  pub good : IsRowsAnswer relation sheet bytes (Ok lines)
  pub wrote : TakesFront taken taken' lines
