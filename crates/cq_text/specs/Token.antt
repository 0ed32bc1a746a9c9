-- Tokens, and where they stand in a text. (this project's profile)
use Rattle.std.specs.Prelude.{ℕ, List, Option, Some, None, map}
use Rattle.cq_atom.specs.Value.{ValueContent}
use Rattle.cq_text.specs.declared.fault.Kind.{Kind}
use Rattle.cq_text.specs.declared.fault.Kind.TheVariants.{Shape}
use Rattle.cq_text.specs.declared.token.Token.{Token}
use Rattle.cq_text.specs.declared.token.Token.TheVariants.{Mark, Word, Literal, Bad, Finish}
use Rattle.cq_text.specs.declared.token.Lexeme.{Lexeme}

-- A mark is a sign, a word an identifier by its bytes, a literal a number or a quoted text by what it stands for.
-- A place that holds no good token is a token too, of its kind of fault; `Finish` is what a reader meets at the end.
abbrev pub TokenContent : Type 0
TokenContent = Token (List ℕ) ValueContent

-- A token, and the offset of its first byte.
abbrev pub LexemeContent : Type 0
LexemeContent = Lexeme (List ℕ) ValueContent

-- The tokens alone.
abbrev pub tokens_of : List LexemeContent → List TokenContent
tokens_of ls = map (λ l. l.token) ls

-- The kind of fault that a token is wherever it stands.
abbrev pub flaw : TokenContent → Option Kind
flaw (Bad kind) = Some kind
flaw Finish = Some Shape
flaw _ = None
