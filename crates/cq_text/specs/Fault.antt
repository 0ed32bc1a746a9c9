-- The first fault of a text. (this project's profile)
use Rattle.std.specs.Prelude.{◌≡◌, ℕ, ℤ, ◌+◌, ◌<◌, ◌≤◌, List, [], ◌∷◌, ◌++◌, length, fold, codes, Bool, true, false, not, ◌||◌, ◌&&◌, nat_lt, nat_le, Option, Some, None, ◌⊎◌, IsTrue, if◌then◌else◌}
use Rattle.std.specs.Str.{bytes_eq}
use Rattle.cq_atom.specs.Limits.{max_name}
use Rattle.cq_atom.specs.declared.value.Content.TheVariants.{Number, Text}
use Rattle.cq_atom.specs.declared.term.TermKind.TheVariants.{Variable}
use Rattle.cq_atom.specs.Text.{begins_with_lower}
use Rattle.cq_atom.specs.Value.{ValueContent}
use Rattle.cq_atom.specs.Atom.{AtomRecord, RowRecord}
use Rattle.cq_atom.specs.Query.{QueryRecord, is_bound}
use Rattle.cq_text.specs.Limits.{max_count, max_form}
use Rattle.cq_text.specs.declared.fault.Kind.{Kind}
use Rattle.cq_text.specs.declared.fault.Kind.TheVariants.{Shape, Limit, Unbound}
use Rattle.cq_text.specs.declared.command.CommandKind.TheVariants.{Edit}
use Rattle.cq_atom.specs.declared.edit.EditKind.TheVariants.{Post}
use Rattle.cq_text.specs.declared.token.Sign.TheVariants.{OpenBrace, CloseBrace, OpenParen, CloseParen, Comma, Arrow}
use Rattle.cq_text.specs.declared.token.Token.TheVariants.{Mark, Word, Literal, Bad, Finish}
use Rattle.cq_text.specs.Token.{TokenContent, LexemeContent, flaw}
use Rattle.cq_text.specs.Lexing.{is_blank, lexemes_of}
use Rattle.cq_text.specs.Grammar.{CommandContent, count_of, IsSentence, IsQueryText, IsRowText, FitsGrammar, FitsQueryGrammar}
use Rattle.cq_text.specs.declared.form.Form.{Form}
use Rattle.cq_text.specs.Forms.{most_atoms, most_bytes, most_terms}

-- ---- what may still come

-- `board` and a number, of a form or not.
abbrev pub IsBoardText : List TokenContent → Type 0
IsBoardText ts = (n : ℤ) × (ts ≡ Word (codes "board") ∷ Literal (Number n) ∷ [])

-- The tokens are a command, limits apart.
abbrev pub IsCommandText : List TokenContent → Type 0
IsCommandText ts = ((command : CommandContent) × IsSentence ts command) ⊎ IsBoardText ts

-- The tokens are a query, limits apart.
abbrev pub IsLoneQuery : List TokenContent → Type 0
IsLoneQuery ts = (query : QueryRecord) × IsQueryText ts query

-- The tokens are a ground atom, limits apart.
abbrev pub IsLoneRow : List TokenContent → Type 0
IsLoneRow ts = (row : RowRecord) × IsRowText ts row

-- Some tokens after these complete a whole, limits apart.
abbrev pub IsViable : (List TokenContent → Type 0) → List TokenContent → Type 0
IsViable Whole ts = (more : List TokenContent) × Whole (ts ++ more)

-- ---- limits

-- Where a reader is, as far as limits go: the commas since the last bracket, the atoms closed since the last brace
-- or arrow, and the most that a number may be as a command's count.
pub record Place : Type 0 where
  pub commas : ℕ
  pub atoms : ℕ
  pub most : Option ℕ

-- At the front of a text nothing was read, and no number is a count.
abbrev pub opening : Place
opening = record { commas = 0; atoms = 0; most = None }

-- A count that is 0, negative or above the most.
abbrev pub is_out_of_range : Option ℕ → ValueContent → Bool
is_out_of_range None v = false
is_out_of_range (Some most) (Number n) = not (nat_le 1 (count_of n) && nat_le (count_of n) most)
is_out_of_range (Some most) (Text t) = false

module _ (form : Form) where
  -- The numbers after these words are counts with a range.
  abbrev pub most_behind : List ℕ → Option ℕ → Option ℕ
  most_behind w most = if bytes_eq w (codes "relation") then Some (most_terms form) else (if bytes_eq w (codes "limits") then Some max_count else (if bytes_eq w (codes "board") then Some max_form else most))

  -- Where the reader is after one token more.
  abbrev pub behind_token : Place → TokenContent → Place
  behind_token p (Mark Comma) = record { commas = p.commas + 1; atoms = p.atoms; most = None }
  behind_token p (Mark OpenParen) = record { commas = 0; atoms = p.atoms; most = None }
  behind_token p (Mark CloseParen) = record { commas = 0; atoms = p.atoms + 1; most = None }
  behind_token p (Mark _) = opening
  behind_token p (Word w) = record { commas = p.commas; atoms = p.atoms; most = most_behind w p.most }
  behind_token p _ = p

  -- Where the reader is after these tokens.
  unfoldable pub place_behind : List TokenContent → Place
  place_behind ts = fold behind_token opening ts

  -- A long identifier, a term too many, the first token of an atom too many, a count out of its range.
  abbrev pub is_over : Place → TokenContent → Bool
  is_over p (Word w) = nat_lt max_name (length w) || nat_le (most_terms form) p.commas || nat_le (most_atoms form) p.atoms
  is_over p (Literal v) = nat_le (most_terms form) p.commas || is_out_of_range p.most v
  is_over p _ = false

  -- The token is over a limit after those before it.
  abbrev pub IsOver : List TokenContent → TokenContent → Type 0
  IsOver before t = IsTrue (is_over (place_behind before) t)

  -- ---- faults of tokens

  -- The kind of fault that a token is after those before it: its own flaw, else `Shape` where nothing completes them, else `Limit`.
  abbrev pub IsFault : (List TokenContent → Type 0) → List TokenContent → TokenContent → Option Kind → Kind → Type 0
  IsFault Whole before t (Some flaw) kind = kind ≡ flaw
  IsFault Whole before t None kind =
      ((kind ≡ Shape) × (IsViable Whole (before ++ (t ∷ [])) → ⊥))
      ⊎ ((kind ≡ Limit) × IsViable Whole (before ++ (t ∷ [])) × IsOver before t)

  -- The first fault of the lexemes after those before, of a text that ends at end.
  abbrev pub FirstTokenFault : (List TokenContent → Type 0) → List TokenContent → List LexemeContent → ℕ → Kind → ℕ → Type 0
  FirstTokenFault Whole before [] end kind offset = (Whole before → ⊥) × (kind ≡ Shape) × (offset ≡ end)
  FirstTokenFault Whole before (l ∷ ls) end kind offset =
      (IsFault Whole before l.token (flaw l.token) kind × (offset ≡ l.at))
      ⊎ (IsViable Whole (before ++ (l.token ∷ [])) × (IsOver before l.token → ⊥) × FirstTokenFault Whole (before ++ (l.token ∷ [])) ls end kind offset)

-- ---- unbound variables

-- After a query's brace a lower-case identifier is a variable: whether the body lacks it.
abbrev pub is_unbound : List AtomRecord → TokenContent → Bool
is_unbound body (Word w) = begins_with_lower w && not (is_bound body (Variable w))
is_unbound body _ = false

-- The offset of the first unbound variable.
abbrev pub first_unbound_at : List AtomRecord → List LexemeContent → Option ℕ
first_unbound_at body [] = None
first_unbound_at body (l ∷ ls) = if is_unbound body l.token then Some l.at else first_unbound_at body ls

-- An opening brace.
abbrev pub is_brace : TokenContent → Bool
is_brace (Mark OpenBrace) = true
is_brace _ = false

-- The lexemes after the first opening brace.
abbrev pub behind_brace : List LexemeContent → List LexemeContent
behind_brace [] = []
behind_brace (l ∷ ls) = if is_brace l.token then ls else behind_brace ls

-- The offset is that of the leftmost unbound variable of a query with this body.
abbrev pub IsUnboundAt : List LexemeContent → QueryRecord → ℕ → Type 0
IsUnboundAt ls query offset = first_unbound_at query.body (behind_brace ls) ≡ Some offset

-- ---- texts

-- A ground atom has no variable, so none that is unbound.
abbrev pub UnboundInRow : List LexemeContent → ℕ → Type 0
UnboundInRow ls offset = ⊥

module _ (form : Form) where
  -- A text of a command fits the grammar and its limits, and has an unbound variable.
  abbrev pub UnboundInCommand : List LexemeContent → ℕ → Type 0
  UnboundInCommand ls offset = (name : List ℕ) × (query : QueryRecord) × FitsGrammar form ls (Edit (Post name query)) × IsUnboundAt ls query offset

  -- A text of a query fits the grammar and its limits, and has an unbound variable.
  abbrev pub UnboundInQuery : List LexemeContent → ℕ → Type 0
  UnboundInQuery ls offset = (query : QueryRecord) × FitsQueryGrammar form ls query × IsUnboundAt ls query offset

  -- A text that is too long has its fault at the limit. Any other has the first fault of its tokens, or else that of a variable.
  abbrev pub FirstFaultOf : (List TokenContent → Type 0) → (List LexemeContent → ℕ → Type 0) → List ℕ → Kind → ℕ → Type 0
  FirstFaultOf Whole UnboundIn text kind offset =
      ((most_bytes form < length text) × (kind ≡ Limit) × (offset ≡ most_bytes form))
      ⊎ ((length text ≤ most_bytes form) × (FirstTokenFault form Whole [] (lexemes_of text) (length text) kind offset ⊎ ((kind ≡ Unbound) × UnboundIn (lexemes_of text) offset)))

  -- The first fault of a text that is read as a command: a blank text that is not too long has none.
  abbrev pub FirstFault : List ℕ → Kind → ℕ → Type 0
  FirstFault text kind offset = (length text ≤ most_bytes form → IsTrue (is_blank text) → ⊥) × FirstFaultOf IsCommandText UnboundInCommand text kind offset

  -- The first fault of a text that is read as a query.
  abbrev pub FirstQueryFault : List ℕ → Kind → ℕ → Type 0
  FirstQueryFault text kind offset = FirstFaultOf IsLoneQuery UnboundInQuery text kind offset

  -- The first fault of a text that is read as a ground atom.
  abbrev pub FirstRowFault : List ℕ → Kind → ℕ → Type 0
  FirstRowFault text kind offset = FirstFaultOf IsLoneRow UnboundInRow text kind offset

-- ---- one reading

-- Either one thing is stood for and there is no fault, or there is one fault and nothing is stood for.
pub record HasOneReading {A : Type 0} (Stands : A → Type 0) (Faults : Kind → ℕ → Type 0) : Type 0 where
  pub some : ((x : A) × Stands x) ⊎ ((kind : Kind) × (offset : ℕ) × Faults kind offset)
  pub one : (x y : A) → Stands x → Stands y → x ≡ y
  pub one_fault : (kind other : Kind) (offset place : ℕ) → Faults kind offset → Faults other place → (kind ≡ other) × (offset ≡ place)
  pub not_both : (x : A) (kind : Kind) (offset : ℕ) → Stands x → Faults kind offset → ⊥
