-- Reading terms, atoms, rows and queries from left to right, as the reader's methods do.
use Rattle.std.specs.Prelude.{ℕ, zero, suc, List, [], ◌∷◌, Bool, true, false, Option, Some, None, Result, Ok, if◌then◌else◌}
use Rattle.cq_atom.specs.Value.{ValueContent}
use Rattle.cq_atom.specs.Atom.{TermContent, AtomRecord, RowRecord}
use Rattle.cq_atom.specs.Query.{QueryRecord}
use Rattle.cq_text.specs.declared.fault.Kind.TheVariants.{Shape, Limit, Unbound}
use Rattle.cq_text.specs.declared.fault.TextFault.{TextFault}
use Rattle.cq_text.specs.declared.token.Sign.TheVariants.{OpenBrace, CloseBrace, OpenParen, CloseParen, Arrow}
use Rattle.cq_text.specs.declared.token.Close.{Close}
use Rattle.cq_text.specs.declared.token.Close.TheVariants.{By, End}
use Rattle.cq_text.specs.Token.{LexemeContent, flaw}
use Rattle.cq_text.specs.Fault.{is_unbound}
use Rattle.cq_text.specs.Steps.Binding.{binds_both}
use Rattle.cq_text.specs.Steps.Lexemes.{Ahead, ◌>>=◌, fault, unless_flawed, next_at, is_finish, relation_in, term_in, value_in, sign_at, end_at, is_close, goes_on_at}
use Rattle.cq_text.specs.declared.form.Form.{Form}
use Rattle.cq_text.specs.Forms.{most_atoms, most_terms}

-- What an item of a list gives: the item, whether more come, and what is ahead. It takes whether there is room for it.
abbrev pub Item : Type 0 → Type 0
Item A = Bool → Ahead → Result (A × Bool × Ahead) TextFault

-- At most n items with a comma between two, and the sign after them.
unfoldable pub listed_at : {A : Type 0} → Item A → ℕ → Ahead → Result (List A × Ahead) TextFault
listed_at item zero a = do
  i ← item false a
  Ok ([], i.2)
listed_at item (suc n) a = do
  i ← item true a
  if i.1 then (listed_at item n i.2 >>= λ xs. Ok (i.0 ∷ xs.0, xs.1)) else Ok (i.0 ∷ [], i.2)

-- A term, and where it stands.
unfoldable pub next_term_at : Ahead → Result (TermContent × ℕ × Ahead) TextFault
next_term_at a = do
  l ← next_at a
  x ← term_in l.0.token l.0.at
  Ok (x, l.0.at, l.1)

unfoldable pub term_at : Item TermContent
term_at room a = do
  l ← next_at a
  x ← term_in l.0.token l.0.at
  if room then (goes_on_at (By CloseParen) l.1 >>= λ m. Ok (x, m.0, m.1)) else fault Limit l.0.at

unfoldable pub terms_at : (form : Form) → Ahead → Result (List TermContent × Ahead) TextFault
terms_at form a = listed_at term_at (most_terms form) a

abbrev pub atom_record : List ℕ → List TermContent → AtomRecord
atom_record relation terms = record { relation = relation; terms = terms }

-- What stands after a relation's name.
unfoldable pub applied_at : (form : Form) → List ℕ → Ahead → Result (AtomRecord × Ahead) TextFault
applied_at form relation a = do
  inner ← sign_at OpenParen a
  xs ← terms_at form inner
  Ok (atom_record relation xs.0, xs.1)

unfoldable pub atom_at : (form : Form) → Close → Item AtomRecord
atom_at form close room a = do
  l ← next_at a
  relation ← relation_in l.0.token l.0.at
  if room then (applied_at form relation l.1 >>= λ x. goes_on_at close x.1 >>= λ m. Ok (x.0, m.0, m.1)) else fault Limit l.0.at

unfoldable pub atoms_at : (form : Form) → Close → Ahead → Result (List AtomRecord × Ahead) TextFault
atoms_at form close a = listed_at (atom_at form close) (most_atoms form) a

-- What closes, or atoms and what closes.
unfoldable pub atoms_if_any_at : (form : Form) → Close → Ahead → Result (List AtomRecord × Ahead) TextFault
atoms_if_any_at form close a = do
  l ← next_at a
  if is_close close l.0.token then Ok ([], l.1) else atoms_at form close a

-- A constant of a ground atom, and where it stands.
unfoldable pub next_value_at : Ahead → Result (ValueContent × ℕ × Ahead) TextFault
next_value_at a = do
  l ← next_at a
  v ← value_in l.0.token l.0.at
  Ok (v, l.0.at, l.1)

unfoldable pub value_at : Item ValueContent
value_at room a = do
  l ← next_at a
  v ← value_in l.0.token l.0.at
  if room then (goes_on_at (By CloseParen) l.1 >>= λ m. Ok (v, m.0, m.1)) else fault Limit l.0.at

unfoldable pub values_at : (form : Form) → Ahead → Result (List ValueContent × Ahead) TextFault
values_at form a = listed_at value_at (most_terms form) a

abbrev pub row_record : List ℕ → List ValueContent → RowRecord
row_record relation values = record { relation = relation; values = values }

-- A ground atom and the end.
unfoldable pub row_at : (form : Form) → Ahead → Result RowRecord TextFault
row_at form a = do
  l ← next_at a
  relation ← relation_in l.0.token l.0.at
  inner ← sign_at OpenParen l.1
  values ← values_at form inner
  rest ← end_at values.1
  Ok (row_record relation values.0)

-- Whether the next token is an unbound variable, whether it is the end, and where it stands.
unfoldable pub next_unbound_at : List AtomRecord → Ahead → Result (Bool × Bool × ℕ × Ahead) TextFault
next_unbound_at body a = do
  l ← next_at a
  Ok (is_unbound body l.0.token, is_finish l.0.token, l.0.at, l.1)

-- Where an unbound variable stands, if the next token is one.
unfoldable pub unbound_at : List AtomRecord → Ahead → Result (Option ℕ × Ahead) TextFault
unbound_at body a = do
  l ← next_at a
  if is_unbound body l.0.token then Ok (Some l.0.at, l.1) else (if is_finish l.0.token then fault Shape l.0.at else Ok (None, l.1))

abbrev pub first_unbound_of : List AtomRecord → List LexemeContent → ℕ → Result ℕ TextFault
first_unbound_of body [] end = fault Shape end
first_unbound_of body (l ∷ ls) end = unless_flawed (flaw l.token) l.at l >>= λ m. if is_unbound body l.token then Ok l.at else first_unbound_of body ls end

-- The offset of the first unbound variable, of lexemes that have one.
unfoldable pub first_unbound_from : List AtomRecord → Ahead → Result ℕ TextFault
first_unbound_from body a = first_unbound_of body a.lexemes a.end

abbrev pub query_record : List AtomRecord → List AtomRecord → List AtomRecord → QueryRecord
query_record posts heads body = record { posts = posts; heads = heads; body = body }

-- The fault of a query that has an unbound variable.
abbrev pub unbound_fault : List AtomRecord → Ahead → Result QueryRecord TextFault
unbound_fault body a = first_unbound_from body a >>= λ at. fault Unbound at

-- The query, or where its first unbound variable stands if it has one.
abbrev pub bound_query : List AtomRecord → List AtomRecord → List AtomRecord → Ahead → Result QueryRecord TextFault
bound_query posts heads body a =
    if binds_both body posts heads then Ok (query_record posts heads body) else unbound_fault body a

-- A query, up to the end.
unfoldable pub query_at : (form : Form) → Ahead → Result QueryRecord TextFault
query_at form a = do
  inner ← sign_at OpenBrace a
  posts ← atoms_if_any_at form (By CloseBrace) inner
  heads ← atoms_at form (By Arrow) posts.1
  body ← atoms_if_any_at form End heads.1
  bound_query posts.0 heads.0 body.0 inner
