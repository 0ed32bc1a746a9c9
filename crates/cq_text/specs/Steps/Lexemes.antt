-- What is ahead of a reader, what a lexeme is to the grammar, and the steps from lexeme to lexeme: what each gives, and what it leaves.
use Rattle.std.specs.Prelude.{◌≡◌, ℕ, List, [], ◌∷◌, length, Bool, true, false, nat_lt, nat_eq, Option, Some, None, Result, Ok, Err, if◌then◌else◌}
use Rattle.cq_atom.specs.Limits.{max_name}
use Rattle.cq_atom.specs.declared.value.Content.TheVariants.{Text}
use Rattle.cq_atom.specs.declared.term.TermKind.TheVariants.{Constant, Variable}
use Rattle.cq_atom.specs.Text.{begins_with_upper, begins_with_lower}
use Rattle.cq_atom.specs.Value.{ValueContent}
use Rattle.cq_atom.specs.Atom.{TermContent}
use Rattle.cq_text.specs.declared.fault.Kind.{Kind}
use Rattle.cq_text.specs.declared.fault.Kind.TheVariants.{Shape, Limit}
use Rattle.cq_text.specs.declared.fault.TextFault.{TextFault}
use Rattle.cq_text.specs.declared.fault.TextFault.TheVariants.{At, NoMemory}
use Rattle.cq_text.specs.declared.token.Sign.{Sign}
use Rattle.cq_text.specs.declared.token.Sign.TheVariants.{OpenBrace, CloseBrace, OpenParen, CloseParen, Comma, Arrow}
use Rattle.cq_text.specs.declared.token.Close.{Close}
use Rattle.cq_text.specs.declared.token.Close.TheVariants.{By, End}
use Rattle.cq_text.specs.declared.token.Token.TheVariants.{Mark, Word, Literal, Bad, Finish}
use Rattle.cq_text.specs.Token.{TokenContent, LexemeContent, flaw}
use Rattle.cq_text.specs.Lexing.{lexemes_of}

-- What a function returned, seen by view, is what reading gives, unless memory ran out.
abbrev pub Fails : {Y : Type 0} → TextFault → Result Y TextFault → Type 0
Fails NoMemory read = Unit {0}
Fails (At kind offset) read = read ≡ Err (At kind offset)

abbrev pub Gives : {X Y : Type 0} → (X → Y) → Result X TextFault → Result Y TextFault → Type 0
Gives view (Ok x) read = read ≡ Ok (view x)
Gives view (Err e) read = Fails e read

-- What is ahead of a reader: the lexemes, and the length of the text.
pub record Ahead : Type 0 where
  pub lexemes : List LexemeContent
  pub end : ℕ

abbrev pub ahead_of_text : List ℕ → Ahead
ahead_of_text text = record { lexemes = lexemes_of text; end = length text }

infixl 10 ◌>>=◌
abbrev pub ◌>>=◌ : {A B : Type 0} → Result A TextFault → (A → Result B TextFault) → Result B TextFault
(Ok x) >>= f = f x
(Err e) >>= f = Err e

abbrev pub fault : {A : Type 0} → Kind → ℕ → Result A TextFault
fault kind offset = Err (At kind offset)

abbrev pub unless_flawed : {A : Type 0} → Option Kind → ℕ → A → Result A TextFault
unless_flawed None at x = Ok x
unless_flawed (Some kind) at x = fault kind at

-- The next lexeme, if a good token stands there.
abbrev pub next_of : List LexemeContent → ℕ → Result (LexemeContent × Ahead) TextFault
next_of [] end = Ok (record { at = end; token = Finish }, record { lexemes = []; end = end })
next_of (l ∷ ls) end = unless_flawed (flaw l.token) l.at (l, record { lexemes = ls; end = end })

unfoldable pub next_at : Ahead → Result (LexemeContent × Ahead) TextFault
next_at a = next_of a.lexemes a.end

-- A reader met this token at that place, and passed it.
abbrev pub Met : TokenContent → ℕ → Ahead → Ahead → Type 0
Met token at a b = next_at a ≡ Ok (record { at = at; token = token }, b)

-- An identifier comes.
abbrev pub WordComes : Ahead → Type 0
WordComes a = (word : List ℕ) × (at : ℕ) × (b : Ahead) × Met (Word word) at a b

abbrev pub code : Sign → ℕ
code OpenBrace = 0
code CloseBrace = 1
code OpenParen = 2
code CloseParen = 3
code Comma = 4
code Arrow = 5

abbrev pub is_sign : Sign → TokenContent → Bool
is_sign s (Mark r) = nat_eq (code s) (code r)
is_sign s (Word w) = false
is_sign s (Literal v) = false
is_sign s (Bad kind) = false
is_sign s Finish = false

abbrev pub is_finish : TokenContent → Bool
is_finish Finish = true
is_finish (Mark s) = false
is_finish (Word w) = false
is_finish (Literal v) = false
is_finish (Bad kind) = false

abbrev pub short_word : List ℕ → ℕ → Result (List ℕ) TextFault
short_word w at = if nat_lt max_name (length w) then fault Limit at else Ok w

-- The identifier that a token is.
abbrev pub word_in : TokenContent → Option (List ℕ)
word_in (Word w) = Some w
word_in (Mark s) = None
word_in (Literal v) = None
word_in (Bad kind) = None
word_in Finish = None

-- A name of any case.
abbrev pub name_of : Option (List ℕ) → ℕ → Result (List ℕ) TextFault
name_of None at = fault Shape at
name_of (Some w) at = short_word w at

abbrev pub name_in : TokenContent → ℕ → Result (List ℕ) TextFault
name_in t at = name_of (word_in t) at

-- A relation's name.
abbrev pub relation_of : Option (List ℕ) → ℕ → Result (List ℕ) TextFault
relation_of None at = fault Shape at
relation_of (Some w) at = if begins_with_upper w then short_word w at else fault Shape at

abbrev pub relation_in : TokenContent → ℕ → Result (List ℕ) TextFault
relation_in t at = relation_of (word_in t) at

abbrev pub word_term : List ℕ → ℕ → Result TermContent TextFault
word_term w at = if begins_with_upper w then (short_word w at >>= λ v. Ok (Constant (Text v))) else (if begins_with_lower w then (short_word w at >>= λ v. Ok (Variable v)) else fault Shape at)

abbrev pub term_in : TokenContent → ℕ → Result TermContent TextFault
term_in (Word w) at = word_term w at
term_in (Literal v) at = Ok (Constant v)
term_in (Mark s) at = fault Shape at
term_in (Bad kind) at = fault Shape at
term_in Finish at = fault Shape at

-- An upper-case identifier as a constant.
abbrev pub word_value : List ℕ → ℕ → Result ValueContent TextFault
word_value w at = if begins_with_upper w then (short_word w at >>= λ v. Ok (Text v)) else fault Shape at

abbrev pub value_in : TokenContent → ℕ → Result ValueContent TextFault
value_in (Word w) at = word_value w at
value_in (Literal v) at = Ok v
value_in (Mark s) at = fault Shape at
value_in (Bad kind) at = fault Shape at
value_in Finish at = fault Shape at

unfoldable pub sign_at : Sign → Ahead → Result Ahead TextFault
sign_at s a = do
  l ← next_at a
  if is_sign s l.0.token then Ok l.1 else fault Shape l.0.at

-- Nothing is left.
unfoldable pub end_at : Ahead → Result Ahead TextFault
end_at a = do
  l ← next_at a
  if is_finish l.0.token then Ok l.1 else fault Shape l.0.at

abbrev pub is_close : Close → TokenContent → Bool
is_close (By s) t = is_sign s t
is_close End t = is_finish t

-- Whether the next token is that, and where it stands.
unfoldable pub next_is_at : Close → Ahead → Result (Bool × ℕ × Ahead) TextFault
next_is_at close a = do
  l ← next_at a
  Ok (is_close close l.0.token, l.0.at, l.1)

-- Whether what closes a list comes, which is passed then.
unfoldable pub passes_at : Close → Ahead → Result (Bool × Ahead) TextFault
passes_at close a = do
  l ← next_at a
  Ok (is_close close l.0.token, if is_close close l.0.token then l.1 else a)

-- Whether the next token is a comma, whether it closes a list, and where it stands.
unfoldable pub next_in_list_at : Close → Ahead → Result (Bool × Bool × ℕ × Ahead) TextFault
next_in_list_at close a = do
  l ← next_at a
  Ok (is_sign Comma l.0.token, is_close close l.0.token, l.0.at, l.1)

-- Whether a comma comes, or what closes a list.
unfoldable pub goes_on_at : Close → Ahead → Result (Bool × Ahead) TextFault
goes_on_at close a = do
  s ← next_at a
  if is_sign Comma s.0.token then Ok (true, s.1) else (if is_close close s.0.token then Ok (false, s.1) else fault Shape s.0.at)

-- A name of any case.
unfoldable pub name_at : Ahead → Result (List ℕ × Ahead) TextFault
name_at a = do
  l ← next_at a
  name ← name_in l.0.token l.0.at
  Ok (name, l.1)

-- A relation's name, and where it stands.
unfoldable pub relation_name_at : Ahead → Result (List ℕ × ℕ × Ahead) TextFault
relation_name_at a = do
  l ← next_at a
  relation ← relation_in l.0.token l.0.at
  Ok (relation, l.0.at, l.1)
