-- Rows from CSV: which records bytes have, and which rows or which fault these give. (this project's profile)
use Rattle.std.specs.Prelude.{◌≡◌, ◌==◌, ◌<◌, ◌≤◌, ◌-◌, ℕ, Bool, not, nat_eq, nat_le, List, [], ◌∷◌, length, drop, filter_map, if◌then◌else◌, Option, Some, None, option_map}
use Rattle.std.specs.List.{enumerate_from}
use Rattle.std.specs.Option.{is_some}
use Rattle.std.specs.Str.{is_utf8}
use Rattle.csv.specs.Reading.{default_config, records, strip_bom}
use Rattle.csv.specs.declared.parser.Config.{Config}
use Rattle.cq_atom.specs.Limits.{max_text}
use Rattle.cq_atom.specs.Text.{is_relation_name}
use Rattle.cq_atom.specs.Atom.{RowRecord, is_arity}
use Rattle.cq_text.specs.Field.{value_of_field}
use Rattle.cq_csv.specs.declared.fault.CsvFault.{CsvFault}
use Rattle.cq_csv.specs.declared.fault.Flaw.{Flaw}
use Rattle.cq_csv.specs.declared.fault.Flaw.TheVariants.{Long, NotUtf8, Control}
use Rattle.cq_csv.specs.declared.layout.Layout.{Layout}
use Rattle.cq_csv.specs.declared.fault.CsvFault.TheVariants.{BadName, BadArity, Device, Width, Text, NoMemory}

-- A record: the bytes of each of its fields, quotes taken off.
abbrev pub CsvRecord : Type 0
CsvRecord = List (List ℕ)

-- The settings of the crate `csv` for a layout: this byte stands between fields, and else they are its default ones.
abbrev pub config_of : Layout → Config
config_of layout = record default_config { delimiter = layout.delimiter }

-- How many records in front are a header.
abbrev pub header_count : Layout → ℕ
header_count layout = if layout.has_header then 1 else 0

-- The records of bytes: those that the crate `csv` reads with these settings, after a byte order mark, and behind the header, where there is one.
abbrev pub csv_records : Layout → List ℕ → List CsvRecord
csv_records layout bytes = drop (header_count layout) (records (config_of layout) (strip_bom bytes))

-- The field stands for a value.
abbrev pub is_field : List ℕ → Bool
is_field field = is_some (value_of_field field)

-- Why a field that is no value is none: a value has at most 255 bytes of UTF-8 without a control character.
abbrev pub flaw_of : List ℕ → Flaw
flaw_of field = if not (nat_le (length field) max_text) then Long else (if is_utf8 field then Control else NotUtf8)

-- The place of a field that is no value, and why it is none.
abbrev pub field_flaw : ℕ × List ℕ → Option (ℕ × Flaw)
field_flaw f = if is_field f.1 then None else Some (f.0, flaw_of f.1)

-- The first of some, where there is one.
abbrev pub first_of : {X : Type 0} → List X → Option X
first_of [] = None
first_of (x ∷ xs) = Some x

-- What is wrong with the first of these, by their places from 0, with which something is.
abbrev pub first_wrong : {X Y : Type 0} → (ℕ × X → Option Y) → List X → Option Y
first_wrong wrong xs = first_of (filter_map wrong (enumerate_from 0 xs))

-- Why the record at that place is no row of that arity, told with that line: its width is looked at before its fields, which count from 0.
abbrev pub record_fault : (line arity : ℕ) → ℕ × CsvRecord → Option CsvFault
record_fault line arity r =
    if not (nat_eq (length r.1) arity) then Some (Width line r.0 (length r.1))
    else option_map (λ f. Text line r.0 f.0 f.1) (first_wrong field_flaw r.1)

-- The fault of the first record that has one, told with that line; records count from 0.
abbrev pub records_fault : (line arity : ℕ) → List CsvRecord → Option CsvFault
records_fault line arity rs = first_wrong (record_fault line arity) rs

-- No record has a fault, whichever line were told.
abbrev pub AreGood : ℕ → List CsvRecord → Type 0
AreGood arity rs = (line : ℕ) → records_fault line arity rs ≡ None

-- So many lines in front, each with its LF, which is byte 10; all bytes, where they have no more lines.
abbrev pub first_lines : ℕ → List ℕ → List ℕ
first_lines n [] = []
first_lines n (b ∷ bytes) = if n == 0 then [] else b ∷ first_lines (if b == 10 then n - 1 else n) bytes

-- The record at that place, behind the header, begins in that line of the bytes: the lines before it alone have no more records than stand before this
-- one, and with it they have more. Where they end inside a record they have it already, since the end of bytes ends a record. It begins in one line alone (`one_line`).
pub record BeginsInLine (layout : Layout) (bytes : List ℕ) (index line : ℕ) : Type 0 where
  pub before : length (csv_records layout (first_lines (line - 1) bytes)) ≤ index
  pub within : index < length (csv_records layout (first_lines line bytes))

-- The fault is that of the first record that has one, told with a line in which that record begins.
abbrev pub IsFirstFault : (arity : ℕ) → Layout → (bytes : List ℕ) → CsvFault → Type 0
IsFirstFault arity layout bytes BadName = ⊥
IsFirstFault arity layout bytes BadArity = ⊥
IsFirstFault arity layout bytes (Device turn) = ⊥
IsFirstFault arity layout bytes (Width line index fields) = (records_fault line arity (csv_records layout bytes) ≡ Some (Width line index fields)) × BeginsInLine layout bytes index line
IsFirstFault arity layout bytes (Text line index field flaw) = (records_fault line arity (csv_records layout bytes) ≡ Some (Text line index field flaw)) × BeginsInLine layout bytes index line
IsFirstFault arity layout bytes NoMemory = ⊥

-- The row of a record: the values that its fields stand for, in order.
abbrev pub row_of_record : List ℕ → CsvRecord → RowRecord
row_of_record relation fields = record { relation = relation; values = filter_map value_of_field fields }

-- Why nothing is read: the name is looked at before the arity.
abbrev pub call_fault : List ℕ → ℕ → Option CsvFault
call_fault relation arity =
    if not (is_relation_name relation) then Some BadName
    else (if not (is_arity arity) then Some BadArity else None)

-- What is known of a fault, by its kind: of the call, of the device by its turn, of a record.
abbrev pub IfOfCall : CsvFault → Type 0 → Type 0
IfOfCall BadName P = P
IfOfCall BadArity P = P
IfOfCall (Device turn) P = Unit {0}
IfOfCall (Width line index fields) P = Unit {0}
IfOfCall (Text line index field flaw) P = Unit {0}
IfOfCall NoMemory P = Unit {0}

-- What is known of a fault of the device, by its turn.
abbrev pub IfOfDevice : CsvFault → (ℕ → Type 0) → Type 0
IfOfDevice BadName P = Unit {0}
IfOfDevice BadArity P = Unit {0}
IfOfDevice (Device turn) P = P turn
IfOfDevice (Width line index fields) P = Unit {0}
IfOfDevice (Text line index field flaw) P = Unit {0}
IfOfDevice NoMemory P = Unit {0}

-- What is known of a fault of a record.
abbrev pub IfOfRecord : CsvFault → Type 0 → Type 0
IfOfRecord BadName P = Unit {0}
IfOfRecord BadArity P = Unit {0}
IfOfRecord (Device turn) P = Unit {0}
IfOfRecord (Width line index fields) P = P
IfOfRecord (Text line index field flaw) P = P
IfOfRecord NoMemory P = Unit {0}

-- The fault is that of the device.
abbrev pub IsOfDevice : CsvFault → Type 0
IsOfDevice BadName = ⊥
IsOfDevice BadArity = ⊥
IsOfDevice (Device turn) = Unit {0}
IsOfDevice (Width line index fields) = ⊥
IsOfDevice (Text line index field flaw) = ⊥
IsOfDevice NoMemory = ⊥
