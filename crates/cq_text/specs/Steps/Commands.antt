-- The words that commands begin with, and reading commands from left to right, as the reader's methods do.
use Rattle.std.specs.Prelude.{ℕ, ℤ, List, ◌&&◌, nat_le, ◌==◌, Option, Some, None, Result, Ok, if◌then◌else◌, codes}
use Rattle.cq_atom.specs.Value.{number_of}
use Rattle.cq_text.specs.declared.fault.Kind.TheVariants.{Shape, Limit}
use Rattle.cq_text.specs.declared.fault.TextFault.{TextFault}
use Rattle.cq_text.specs.Limits.{max_count, max_form}
use Rattle.cq_text.specs.declared.command.CommandKind.TheVariants.{Setup, Edit, Publish, Show}
use Rattle.cq_text.specs.declared.command.SetupLine.TheVariants.{Relation, Board, Limits}
use Rattle.cq_atom.specs.declared.edit.EditKind.TheVariants.{Post, Withdraw, Insert, Delete}
use Rattle.cq_text.specs.declared.command.CommandWord.{CommandWord}
use Rattle.cq_text.specs.declared.token.Token.TheVariants.{Mark, Word, Literal, Bad, Finish}
use Rattle.cq_text.specs.Token.{TokenContent}
use Rattle.cq_text.specs.Grammar.{CommandContent, count_of}
use Rattle.std.specs.Str.{bytes_eq}
use Rattle.cq_text.specs.declared.command.CommandWord.TheVariants as words
use Rattle.cq_text.specs.Steps.Lexemes.{Ahead, ◌>>=◌, fault, next_at, name_in, relation_in, end_at}
use Rattle.cq_text.specs.Steps.Lists.{row_at, query_at}
use Rattle.cq_text.specs.declared.form.Form.{Form}
use Rattle.cq_text.specs.Forms.{most_terms}
use Rattle.cq_text.specs.declared.form.Form.TheVariants.{One, Two}

-- The command word that an identifier is.
abbrev pub command_word : List ℕ → Option CommandWord
command_word w =
    if bytes_eq w (codes "relation") then Some words.Relation else (if bytes_eq w (codes "board") then Some words.Board else (if bytes_eq w (codes "limits") then Some words.Limits else (if bytes_eq w (codes "post") then Some words.Post else (if bytes_eq w (codes "withdraw") then Some words.Withdraw
    else (if bytes_eq w (codes "insert") then Some words.Insert else (if bytes_eq w (codes "delete") then Some words.Delete else (if bytes_eq w (codes "publish") then Some words.Publish else (if bytes_eq w (codes "show") then Some words.Show else None))))))))

-- The bytes of a command word.
abbrev pub bytes_of : CommandWord → List ℕ
bytes_of words.Relation = codes "relation"
bytes_of words.Board = codes "board"
bytes_of words.Limits = codes "limits"
bytes_of words.Post = codes "post"
bytes_of words.Withdraw = codes "withdraw"
bytes_of words.Insert = codes "insert"
bytes_of words.Delete = codes "delete"
bytes_of words.Publish = codes "publish"
bytes_of words.Show = codes "show"

-- The number that a token is.
abbrev pub number_in : TokenContent → Option ℤ
number_in (Literal v) = number_of v
number_in (Word w) = None
number_in (Mark s) = None
number_in (Bad kind) = None
number_in Finish = None

-- A number as a count from 1 to the most.
abbrev pub count_within : ℕ → Option ℤ → ℕ → Result ℕ TextFault
count_within most None at = fault Shape at
count_within most (Some n) at = if nat_le 1 (count_of n) && nat_le (count_of n) most then Ok (count_of n) else fault Limit at

abbrev pub count_in : ℕ → TokenContent → ℕ → Result ℕ TextFault
count_in most t at = count_within most (number_in t) at

unfoldable pub count_at : ℕ → Ahead → Result (ℕ × Ahead) TextFault
count_at most a = do
  l ← next_at a
  n ← count_in most l.0.token l.0.at
  Ok (n, l.1)

unfoldable pub relation_at : (form : Form) → Ahead → Result CommandContent TextFault
relation_at form a = do
  l ← next_at a
  name ← relation_in l.0.token l.0.at
  arity ← count_at (most_terms form) l.1
  rest ← end_at arity.1
  Ok (Setup (Relation name arity.0))

-- The form of a number from 1 to 2.
abbrev pub form_numbered : ℕ → Form
form_numbered number = if number == 2 then Two else One

unfoldable pub board_at : Ahead → Result CommandContent TextFault
board_at a = do
  number ← count_at max_form a
  rest ← end_at number.1
  Ok (Setup (Board (form_numbered number.0)))

unfoldable pub limits_at : Ahead → Result CommandContent TextFault
limits_at a = do
  pool ← count_at max_count a
  journal ← count_at max_count pool.1
  rest ← end_at journal.1
  Ok (Setup (Limits pool.0 journal.0))

unfoldable pub post_at : (form : Form) → Ahead → Result CommandContent TextFault
post_at form a = do
  l ← next_at a
  name ← name_in l.0.token l.0.at
  query ← query_at form l.1
  Ok (Edit (Post name query))

unfoldable pub withdraw_at : Ahead → Result CommandContent TextFault
withdraw_at a = do
  l ← next_at a
  name ← name_in l.0.token l.0.at
  rest ← end_at l.1
  Ok (Edit (Withdraw name))

unfoldable pub insert_at : (form : Form) → Ahead → Result CommandContent TextFault
insert_at form a = do
  row ← row_at form a
  Ok (Edit (Insert row))

unfoldable pub delete_at : (form : Form) → Ahead → Result CommandContent TextFault
delete_at form a = do
  row ← row_at form a
  Ok (Edit (Delete row))

unfoldable pub word_alone : CommandContent → Ahead → Result CommandContent TextFault
word_alone command a = do
  rest ← end_at a
  Ok command

-- What stands after a command word.
abbrev pub command_of : (form : Form) → CommandWord → Ahead → Result CommandContent TextFault
command_of form words.Relation a = relation_at form a
command_of form words.Board a = board_at a
command_of form words.Limits a = limits_at a
command_of form words.Post a = post_at form a
command_of form words.Withdraw a = withdraw_at a
command_of form words.Insert a = insert_at form a
command_of form words.Delete a = delete_at form a
command_of form words.Publish a = word_alone Publish a
command_of form words.Show a = word_alone Show a

abbrev pub command_from : (form : Form) → Option CommandWord → ℕ → Ahead → Result CommandContent TextFault
command_from form None at a = fault Shape at
command_from form (Some word) at a = command_of form word a

-- The command word that a token is.
abbrev pub command_word_in : TokenContent → Option CommandWord
command_word_in (Word w) = command_word w
command_word_in (Mark s) = None
command_word_in (Literal v) = None
command_word_in (Bad kind) = None
command_word_in Finish = None

-- The command word that comes, if one does, and where it stands.
unfoldable pub command_word_at : Ahead → Result (Option CommandWord × ℕ × Ahead) TextFault
command_word_at a = do
  l ← next_at a
  Ok (command_word_in l.0.token, l.0.at, l.1)

unfoldable pub command_at : (form : Form) → Ahead → Result CommandContent TextFault
command_at form a = do
  l ← next_at a
  command_from form (command_word_in l.0.token) l.0.at l.1
