-- Which texts stand for which command, and which for which query.
-- (the form `{posts} heads <- body` and the range restriction: Gupta et al., SIGMOD 2011; all else: this project's profile)
use Rattle.std.specs.Prelude.{◌≡◌, ℕ, ℤ, pos, negsuc, ◌≤◌, List, [], ◌∷◌, ◌++◌, length, codes, ◌⊎◌, IsTrue}
use Rattle.std.specs.List.{AllByRecursion}
use Rattle.cq_atom.specs.Limits.{max_name}
use Rattle.cq_atom.specs.declared.value.Content.TheVariants.{Number, Text}
use Rattle.cq_atom.specs.declared.term.TermKind.TheVariants.{Constant, Variable}
use Rattle.cq_atom.specs.Text.{begins_with_upper, begins_with_lower}
use Rattle.cq_atom.specs.Value.{ValueContent}
use Rattle.cq_atom.specs.Atom.{TermContent, AtomRecord, RowRecord}
use Rattle.cq_atom.specs.Query.{QueryRecord, is_bound}
use Rattle.cq_text.specs.Limits.{max_count}
use Rattle.cq_text.specs.declared.command.CommandKind.{CommandKind}
use Rattle.cq_text.specs.declared.command.CommandKind.TheVariants.{Blank, Setup, Edit, Publish, Show}
use Rattle.cq_text.specs.declared.command.SetupLine.TheVariants.{Relation, Board, Limits}
use Rattle.cq_atom.specs.declared.edit.EditKind.TheVariants.{Post, Withdraw, Insert, Delete}
use Rattle.cq_text.specs.declared.token.Sign.TheVariants.{OpenBrace, CloseBrace, OpenParen, CloseParen, Comma, Arrow}
use Rattle.cq_text.specs.declared.token.Token.TheVariants.{Mark, Word, Literal, Bad, Finish}
use Rattle.cq_text.specs.Token.{TokenContent, LexemeContent, tokens_of}
use Rattle.cq_text.specs.Lexing.{is_blank, lexemes_of}
use Rattle.cq_text.specs.declared.form.Form.{Form}
use Rattle.cq_text.specs.Forms.{most_atoms, most_bytes, most_terms, number_of_form}

-- A command by names, queries and rows as contracts see them.
abbrev pub CommandContent : Type 0
CommandContent = CommandKind (List ℕ) QueryRecord RowRecord

-- ---- the grammar, limits apart

-- One after another, with a comma between two.
abbrev pub Separated : {A : Type 0} → (List TokenContent → A → Type 0) → List TokenContent → List A → Type 0
Separated P ts [] = ⊥
Separated P ts (x ∷ []) = P ts x
Separated P ts (x ∷ y ∷ xs) = (front : List TokenContent) × (rest : List TokenContent) × (ts ≡ front ++ (Mark Comma ∷ rest)) × P front x × Separated P rest (y ∷ xs)

-- A constant: a number, a quoted text, or an upper-case identifier, which is the text of its bytes.
abbrev pub IsConstant : List TokenContent → ValueContent → Type 0
IsConstant ts (Number n) = ts ≡ Literal (Number n) ∷ []
IsConstant ts (Text w) = (ts ≡ Literal (Text w) ∷ []) ⊎ ((ts ≡ Word w ∷ []) × IsTrue (begins_with_upper w))

-- A term: a constant, or a lower-case identifier, which is a variable.
abbrev pub IsTermText : List TokenContent → TermContent → Type 0
IsTermText ts (Constant v) = IsConstant ts v
IsTermText ts (Variable x) = (ts ≡ Word x ∷ []) × IsTrue (begins_with_lower x)

-- A relation's name, which is an upper-case identifier, and items in brackets.
abbrev pub Applied : {A : Type 0} → (List TokenContent → A → Type 0) → List TokenContent → List ℕ → List A → Type 0
Applied P ts relation items = (inner : List TokenContent) × (ts ≡ Word relation ∷ Mark OpenParen ∷ (inner ++ (Mark CloseParen ∷ []))) × IsTrue (begins_with_upper relation) × Separated P inner items

-- An atom: terms in brackets.
abbrev pub IsAtomText : List TokenContent → AtomRecord → Type 0
IsAtomText ts atom = Applied IsTermText ts atom.relation atom.terms

-- A ground atom: constants alone.
abbrev pub IsRowText : List TokenContent → RowRecord → Type 0
IsRowText ts row = Applied IsConstant ts row.relation row.values

-- Nothing, or atoms.
abbrev pub AreAtomsIfAny : List TokenContent → List AtomRecord → Type 0
AreAtomsIfAny ts [] = ts ≡ []
AreAtomsIfAny ts (a ∷ atoms) = Separated IsAtomText ts (a ∷ atoms)

-- The tokens of a query: postconditions in braces, heads, an arrow, the body.
abbrev pub IsQueryText : List TokenContent → QueryRecord → Type 0
IsQueryText ts query = (posts : List TokenContent) × (heads : List TokenContent) × (body : List TokenContent)
    × (ts ≡ Mark OpenBrace ∷ (posts ++ (Mark CloseBrace ∷ (heads ++ (Mark Arrow ∷ body)))))
    × AreAtomsIfAny posts query.posts × Separated IsAtomText heads query.heads × AreAtomsIfAny body query.body

-- A number as a count; a negative one is 0, which no range of a command allows.
abbrev pub count_of : ℤ → ℕ
count_of (pos n) = n
count_of (negsuc n) = 0

-- The tokens of a command, limits apart. A blank text has none.
abbrev pub IsSentence : List TokenContent → CommandContent → Type 0
IsSentence ts Blank = ⊥
IsSentence ts (Setup (Relation name arity)) = (n : ℤ) × (ts ≡ Word (codes "relation") ∷ Word name ∷ Literal (Number n) ∷ []) × IsTrue (begins_with_upper name) × (arity ≡ count_of n)
IsSentence ts (Setup (Board form)) = ts ≡ Word (codes "board") ∷ Literal (Number (pos (number_of_form form))) ∷ []
IsSentence ts (Setup (Limits pool journal)) = (m : ℤ) × (n : ℤ) × (ts ≡ Word (codes "limits") ∷ Literal (Number m) ∷ Literal (Number n) ∷ []) × (pool ≡ count_of m) × (journal ≡ count_of n)
IsSentence ts (Edit (Post name query)) = (rest : List TokenContent) × (ts ≡ Word (codes "post") ∷ Word name ∷ rest) × IsQueryText rest query
IsSentence ts (Edit (Withdraw name)) = ts ≡ Word (codes "withdraw") ∷ Word name ∷ []
IsSentence ts (Edit (Insert row)) = (rest : List TokenContent) × (ts ≡ Word (codes "insert") ∷ rest) × IsRowText rest row
IsSentence ts (Edit (Delete row)) = (rest : List TokenContent) × (ts ≡ Word (codes "delete") ∷ rest) × IsRowText rest row
IsSentence ts Publish = ts ≡ Word (codes "publish") ∷ []
IsSentence ts Show = ts ≡ Word (codes "show") ∷ []

-- ---- limits

-- An identifier is no longer than a name.
abbrev pub IsShort : TokenContent → Type 0
IsShort (Word w) = length w ≤ max_name
IsShort _ = Unit {0}

-- An atom has no more terms than the form allows.
abbrev pub FewTerms : (form : Form) → AtomRecord → Type 0
FewTerms form atom = length atom.terms ≤ most_terms form

-- No part of a query has more atoms than the form allows, and no atom too many terms.
abbrev pub FitsQuery : (form : Form) → QueryRecord → Type 0
FitsQuery form query = (length query.posts ≤ most_atoms form) × (length query.heads ≤ most_atoms form) × (length query.body ≤ most_atoms form)
    × AllByRecursion (FewTerms form) query.posts × AllByRecursion (FewTerms form) query.heads × AllByRecursion (FewTerms form) query.body

-- The numbers of a command are in their range, and its query or row within the limits of the form.
abbrev pub FitsCommand : (form : Form) → CommandContent → Type 0
FitsCommand form (Setup (Relation name arity)) = (1 ≤ arity) × (arity ≤ most_terms form)
FitsCommand form (Setup (Limits pool journal)) = (1 ≤ pool) × (pool ≤ max_count) × (1 ≤ journal) × (journal ≤ max_count)
FitsCommand form (Edit (Post name query)) = FitsQuery form query
FitsCommand form (Edit (Insert row)) = length row.values ≤ most_terms form
FitsCommand form (Edit (Delete row)) = length row.values ≤ most_terms form
FitsCommand form _ = Unit {0}

-- ---- the range restriction

-- Each term of the atoms is a constant, or a variable of the body.
abbrev pub AreBound : List AtomRecord → List AtomRecord → Type 0
AreBound body atoms = AllByRecursion (λ a. AllByRecursion (λ t. IsTrue (is_bound body t)) a.terms) atoms

-- Each variable of the postconditions and the heads is in the body.
abbrev pub IsRestricted : QueryRecord → Type 0
IsRestricted query = AreBound query.body query.posts × AreBound query.body query.heads

-- A posting has such a query.
abbrev pub IsRestrictedCommand : CommandContent → Type 0
IsRestrictedCommand (Edit (Post name query)) = IsRestricted query
IsRestrictedCommand _ = Unit {0}

-- ---- what a text stands for

-- The lexemes fit the grammar of a command and its limits.
pub record FitsGrammar (form : Form) (ls : List LexemeContent) (command : CommandContent) : Type 0 where
  pub sentence : IsSentence (tokens_of ls) command
  pub short : AllByRecursion IsShort (tokens_of ls)
  pub fits : (FitsCommand form) command

-- The text is no longer than a line may be, and blank, or it fits the grammar and each variable is bound.
abbrev pub StandsFor : (form : Form) → List ℕ → CommandContent → Type 0
StandsFor form text command = (length text ≤ most_bytes form) × (((command ≡ Blank) × IsTrue (is_blank text)) ⊎ (FitsGrammar form (lexemes_of text) command × IsRestrictedCommand command))

-- The lexemes fit the grammar of a query alone and its limits.
pub record FitsQueryGrammar (form : Form) (ls : List LexemeContent) (query : QueryRecord) : Type 0 where
  pub sentence : IsQueryText (tokens_of ls) query
  pub short : AllByRecursion IsShort (tokens_of ls)
  pub fits : (FitsQuery form) query

-- The lexemes fit the grammar of a ground atom alone and its limits.
pub record FitsRowGrammar (form : Form) (ls : List LexemeContent) (row : RowRecord) : Type 0 where
  pub sentence : IsRowText (tokens_of ls) row
  pub short : AllByRecursion IsShort (tokens_of ls)
  pub fits : length row.values ≤ most_terms form

-- The text is no longer than a line may be, fits the grammar of a query, and each variable is bound.
abbrev pub StandsForQuery : (form : Form) → List ℕ → QueryRecord → Type 0
StandsForQuery form text query = (length text ≤ most_bytes form) × FitsQueryGrammar form (lexemes_of text) query × IsRestricted query

-- The text is no longer than a line may be, and its tokens are those of the row, a ground atom, within the limits.
abbrev pub StandsForRow : (form : Form) → List ℕ → RowRecord → Type 0
StandsForRow form text row = (length text ≤ most_bytes form) × FitsRowGrammar form (lexemes_of text) row
