-- A reader of records among the bytes of a text, as the loop that reads it knows it.
use Rattle.std.specs.Prelude.{◌≡◌, ℕ, true, not, nat_eq, length, List, Option, Some, option_map, unwrap_or, [], if◌then◌else◌}
use Rattle.std.specs.Borrow.{Bor}
use Rattle.csv.specs.Reading.{Reached, Ready, is_flexible, reader_config, reader_state, reader_trim, source_of}
use Rattle.csv.specs.declared.reader.Reader.{Reader}
use Rattle.csv.specs.declared.reader.Trim.TheVariants as trim
use Rattle.csv.specs.declared.parser.Config.{Config}
use Rattle.csv.specs.declared.parser.State.TheVariants as st
use Rattle.cq_csv.specs.Csv.{CsvRecord, field_flaw, first_wrong}
use Rattle.cq_csv.specs.declared.fault.CsvFault.{CsvFault}
use Rattle.cq_csv.specs.declared.fault.CsvFault.TheVariants.{BadName, BadArity, Device, Width, Text, NoMemory}
use Rattle.cq_csv.specs.declared.fault.Wrong.{Wrong}
use Rattle.cq_csv.specs.declared.fault.Wrong.TheVariants as wrong

-- A reader of bytes in memory.
abbrev pub BytesReader : Type 0
BytesReader = Reader (Bor (List ℕ))

abbrev pub bytes_of : Bor (List ℕ) → Option (List ℕ)
bytes_of s = Some s.now

-- The reader's next read is of one record, of any width, with its fields as they are, by these settings.
pub record IsPlain (cfg : Config) (reader : BytesReader) : Type 0 where
  pub trim : reader_trim reader ≡ trim.None
  pub ready : Ready reader
  pub flexible : is_flexible reader ≡ true
  pub config : reader_config reader ≡ cfg

-- What the reader has yet to read.
abbrev pub text_left : BytesReader → List ℕ
text_left reader = unwrap_or (source_of bytes_of reader) []

-- The reader stands at the start of its text.
pub record IsAtStart (cfg : Config) (reader : BytesReader) : Type 0 where
  pub plain : IsPlain cfg reader
  pub source : source_of bytes_of reader ≡ Some (text_left reader)
  pub state : reader_state reader ≡ st.StartRecord

-- The reader stands after these records of the text.
pub record IsBehind (cfg : Config) (text : List ℕ) (read : List CsvRecord) (reader : BytesReader) : Type 0 where
  pub plain : IsPlain cfg reader
  pub rest : List ℕ
  pub source : source_of bytes_of reader ≡ Some rest
  pub reached : Reached cfg st.StartRecord text read (reader_state reader) rest

-- The fault is of a record, or out of memory.
abbrev pub IsInRecords : CsvFault → Type 0
IsInRecords BadName = ⊥
IsInRecords BadArity = ⊥
IsInRecords (Device turn) = ⊥
IsInRecords (Width line index fields) = Unit {0}
IsInRecords (Text line index field flaw) = Unit {0}
IsInRecords NoMemory = Unit {0}

-- Why a record is no row of that arity, wherever it stands.
abbrev pub wrong_of : ℕ → CsvRecord → Option Wrong
wrong_of arity fields =
    if not (nat_eq (length fields) arity) then Some (wrong.Width (length fields))
    else option_map (λ f. wrong.Text f.0 f.1) (first_wrong field_flaw fields)

-- How that is told of the record at a place that begins in a line.
abbrev pub fault_at : (line index : ℕ) → Wrong → CsvFault
fault_at line index (wrong.Width fields) = Width line index fields
fault_at line index (wrong.Text field flaw) = Text line index field flaw
fault_at line index wrong.NoMemory = NoMemory
