-- What is printed stands for what was printed.
use Rattle.std.proofs.Common.{sym, ◌∙◌, ap, ◌≡◌, ℕ, ◌≤◌, List, [], ◌∷◌, ◌++◌, length, refl, subst, append_assoc, arith, inl}
use Rattle.std.specs.Prelude.{IsTrue, codes}
use Rattle.std.specs.List.{All, AllByRecursion, join_by}
use Rattle.std.proofs.lemmas.List.{append-nil}
use Rattle.std.proofs.lemmas.List.Elements.{All-head, All-tail}
use Rattle.cq_atom.specs.declared.value.Content.TheVariants.{Number, Text}
use Rattle.cq_atom.specs.declared.term.TermKind.TheVariants.{Constant, Variable}
use Rattle.cq_atom.specs.Text.{is_name, is_relation_name, begins_with_lower, begins_with_upper}
use Rattle.cq_atom.specs.Value.{ValueContent, IsValue}
use Rattle.cq_atom.specs.Atom.{TermContent, AtomRecord, RowRecord}
use Rattle.cq_atom.specs.Query.{QueryRecord}
use Rattle.cq_text.specs.declared.token.Sign.TheVariants.{OpenBrace, CloseBrace, OpenParen, CloseParen, Comma, Arrow}
use Rattle.cq_text.specs.declared.token.Token.TheVariants.{Mark, Word, Literal}
use Rattle.cq_text.specs.Token.{TokenContent, tokens_of}
use Rattle.cq_text.specs.Grammar.{Separated, IsConstant, IsTermText, Applied, IsAtomText, IsRowText, AreAtomsIfAny, IsQueryText, IsShort, FewTerms, StandsForQuery, StandsForRow, FitsQuery}
use Rattle.cq_text.specs.Lexing.{lexemes_of}
use Rattle.cq_text.specs.Print.{StandsForAtom, printed_value, printed_term, printed_atom, printed_row, printed_atoms, printed_body, printed_query}
use Rattle.cq_text.specs.Sound.{IsSoundTerm, IsSoundAtom, IsSoundRow, IsSoundQuery}
use Rattle.cq_text.proofs.PrintedBound.{fits}
use Rattle.cq_text.proofs.PrintedLengths.{line_atom, line_row, line_query}
use Rattle.cq_text.proofs.PrintedTokens.{Spells, Anything, Ended, spells_then, spells_whole, spells_name, short_name, spells_text, spells_number, spells_open_paren, spells_close_paren, spells_open_brace, spells_close_brace, spells_comma, spells_arrow, spells_space, and_parts}
use Rattle.cq_text.specs.declared.form.Form.{Form}
use Rattle.cq_text.specs.declared.form.Form.TheVariants.{Two}
use Rattle.cq_text.specs.Forms.{most_terms}

-- The bytes spell tokens that the grammar G allows, before whatever P allows.
pub record Reads (P : List ℕ → Type 0) (bytes : List ℕ) (G : List TokenContent → Type 0) : Type 0 where
  pub tokens : List TokenContent
  pub is : G tokens
  pub short : AllByRecursion IsShort tokens
  pub spells : Spells P bytes tokens

reads_value : (v : ValueContent) → IsValue v → Reads Ended (printed_value v) (λ ts. IsConstant ts v)
reads_value (Number n) h = record { tokens = Literal (Number n) ∷ []; is = refl; short = (tt, tt); spells = spells_number n h }
reads_value (Text s) h = record { tokens = Literal (Text s) ∷ []; is = inl refl; short = (tt, tt); spells = λ at rest p. spells_text s h at rest tt }

reads_term : (t : TermContent) → IsSoundTerm t → Reads Ended (printed_term t) (λ ts. IsTermText ts t)
reads_term (Constant v) h = reads_value v h
reads_term (Variable x) h =
    let p = and_parts (is_name x) (begins_with_lower x) h in
    record { tokens = Word x ∷ []; is = (refl, p.1); short = (short_name x p.0, tt); spells = spells_name x p.0 }

short_append : (a b : List TokenContent) → AllByRecursion IsShort a → AllByRecursion IsShort b → AllByRecursion IsShort (a ++ b)
short_append [] b p q = q
short_append (t ∷ a) b p q = (p.0, short_append a b p.1 q)

module _ {X : Type 0} (f : X → List ℕ) (S : X → Type 0) (G : List TokenContent → X → Type 0) (P : List ℕ → Type 0) (stop : (rest : List ℕ) → P (44 ∷ rest)) (each : (x : X) → S x → Reads P (f x) (λ ts. G ts x)) where
  reads_joined : (x : X) (xs : List X) → All S (x ∷ xs) → Reads P (join_by f (codes ", ") (x ∷ xs)) (λ ts. Separated G ts (x ∷ xs))
  reads_joined x [] h =
      let r = each x (All-head S x [] h) in
      record { tokens = r.tokens; is = r.is; short = r.short; spells = rw append-nil r.spells }
  reads_joined x (y ∷ ys) h =
      let r = each x (All-head S x (y ∷ ys) h) in
      let more = reads_joined y ys (All-tail S x (y ∷ ys) h) in
      let behind = spells_then Anything P (44 ∷ 32 ∷ []) (join_by f (codes ", ") (y ∷ ys)) (Mark Comma ∷ []) more.tokens spells_comma (λ rest p. tt) more.spells in
      record {
        tokens = r.tokens ++ (Mark Comma ∷ more.tokens);
        is = (r.tokens, more.tokens, refl, r.is, more.is);
        short = short_append r.tokens (Mark Comma ∷ more.tokens) r.short (tt, more.short);
        spells = spells_then P P (f x) (44 ∷ 32 ∷ join_by f (codes ", ") (y ∷ ys)) r.tokens (Mark Comma ∷ more.tokens) r.spells (λ rest p. stop _) behind;
      }

module _ {X : Type 0} (f : X → List ℕ) (S : X → Type 0) (G : List TokenContent → X → Type 0) (each : (x : X) → S x → Reads Ended (f x) (λ ts. G ts x)) where
  reads_applied : (relation : List ℕ) (items : List X) → IsTrue (is_relation_name relation) → 1 ≤ length items → All S items
      → Reads Anything (relation ++ codes "(" ++ join_by f (codes ", ") items ++ codes ")") (λ ts. Applied G ts relation items)
  reads_applied relation [] n some h = absurd (omega arith)
  reads_applied relation (x ∷ xs) n some h =
      let p = and_parts (is_name relation) (begins_with_upper relation) n in
      let r = reads_joined f S G Ended (λ rest. refl) each x xs h in
      let items = join_by f (codes ", ") (x ∷ xs) in
      let opened = spells_then Ended Anything relation (codes "(") (Word relation ∷ []) (Mark OpenParen ∷ []) (spells_name relation p.0) (λ rest a. refl) spells_open_paren in
      let filled = spells_then Anything Ended (relation ++ codes "(") items (Word relation ∷ Mark OpenParen ∷ []) r.tokens opened (λ rest a. tt) r.spells in
      record {
        tokens = Word relation ∷ Mark OpenParen ∷ (r.tokens ++ (Mark CloseParen ∷ []));
        is = (r.tokens, refl, p.1, r.is);
        short = (short_name relation p.0, (tt, short_append r.tokens (Mark CloseParen ∷ []) r.short (tt, tt)));
        spells = spells_then Ended Anything (relation ++ codes "(" ++ items) (codes ")") (Word relation ∷ Mark OpenParen ∷ r.tokens) (Mark CloseParen ∷ []) filled (λ rest a. refl) spells_close_paren;
      }

pub reads_atom : (a : AtomRecord) → IsSoundAtom a → Reads Anything (printed_atom a) (λ ts. IsAtomText ts a)
reads_atom a s = reads_applied printed_term IsSoundTerm IsTermText reads_term a.relation a.terms s.relation s.some s.terms

pub reads_row : (r : RowRecord) → IsSoundRow r → Reads Anything (printed_row r) (λ ts. IsRowText ts r)
reads_row r s = reads_applied printed_value IsValue IsConstant reads_value r.relation r.values s.relation s.some s.values

reads_atoms : (a : AtomRecord) (atoms : List AtomRecord) → All IsSoundAtom (a ∷ atoms) → Reads Anything (printed_atoms (a ∷ atoms)) (λ ts. Separated IsAtomText ts (a ∷ atoms))
reads_atoms a atoms h = reads_joined printed_atom IsSoundAtom IsAtomText Anything (λ rest. tt) reads_atom a atoms h

reads_some : (atoms : List AtomRecord) → 1 ≤ length atoms → All IsSoundAtom atoms → Reads Anything (printed_atoms atoms) (λ ts. Separated IsAtomText ts atoms)
reads_some [] some h = absurd (omega arith)
reads_some (a ∷ atoms) some h = reads_atoms a atoms h

reads_any : (atoms : List AtomRecord) → All IsSoundAtom atoms → Reads Anything (printed_atoms atoms) (λ ts. AreAtomsIfAny ts atoms)
reads_any [] h = record { tokens = []; is = refl; short = tt; spells = λ at rest a. (at, refl) }
reads_any (a ∷ atoms) h = let r = reads_atoms a atoms h in record { tokens = r.tokens; is = r.is; short = r.short; spells = r.spells }

reads_body : (atoms : List AtomRecord) → All IsSoundAtom atoms → Reads Anything (printed_body atoms) (λ ts. AreAtomsIfAny ts atoms)
reads_body [] h = record { tokens = []; is = refl; short = tt; spells = λ at rest a. (at, refl) }
reads_body (a ∷ atoms) h =
    let r = reads_atoms a atoms h in
    record { tokens = r.tokens; is = r.is; short = r.short; spells = spells_then Anything Anything (codes " ") (printed_atoms (a ∷ atoms)) [] r.tokens spells_space (λ rest a. tt) r.spells }

pub reads_query : (q : QueryRecord) → 1 ≤ length q.heads → All IsSoundAtom q.posts → All IsSoundAtom q.heads → All IsSoundAtom q.body → Reads Anything (printed_query q) (λ ts. IsQueryText ts q)
reads_query q some sp sh sb =
    let p = reads_any q.posts sp in
    let h = reads_some q.heads some sh in
    let b = reads_body q.body sb in
    let posts = codes "{" ++ printed_atoms q.posts in
    let heads = posts ++ codes "} " ++ printed_atoms q.heads in
    let first = spells_then Anything Anything (codes "{") (printed_atoms q.posts) (Mark OpenBrace ∷ []) p.tokens spells_open_brace (λ rest a. tt) p.spells in
    let second = spells_then Anything Anything posts (codes "} ") (Mark OpenBrace ∷ p.tokens) (Mark CloseBrace ∷ []) first (λ rest a. tt) spells_close_brace in
    let third = spells_then Anything Anything (posts ++ codes "} ") (printed_atoms q.heads) (Mark OpenBrace ∷ (p.tokens ++ (Mark CloseBrace ∷ []))) h.tokens second (λ rest a. tt) h.spells in
    let fourth = spells_then Anything Anything heads (codes " <-") (Mark OpenBrace ∷ ((p.tokens ++ (Mark CloseBrace ∷ [])) ++ h.tokens)) (Mark Arrow ∷ []) third (λ rest a. tt) spells_arrow in
    let fifth = spells_then Anything Anything (heads ++ codes " <-") (printed_body q.body) (Mark OpenBrace ∷ (((p.tokens ++ (Mark CloseBrace ∷ [])) ++ h.tokens) ++ (Mark Arrow ∷ []))) b.tokens fourth (λ rest a. tt) b.spells in
    let whole : Mark OpenBrace ∷ ((((p.tokens ++ (Mark CloseBrace ∷ [])) ++ h.tokens) ++ (Mark Arrow ∷ [])) ++ b.tokens) ≡ Mark OpenBrace ∷ (p.tokens ++ (Mark CloseBrace ∷ (h.tokens ++ (Mark Arrow ∷ b.tokens)))) = simp append_assoc in
    record {
      tokens = Mark OpenBrace ∷ (p.tokens ++ (Mark CloseBrace ∷ (h.tokens ++ (Mark Arrow ∷ b.tokens))));
      is = (p.tokens, h.tokens, b.tokens, refl, p.is, h.is, b.is);
      short = (tt, short_append p.tokens (Mark CloseBrace ∷ (h.tokens ++ (Mark Arrow ∷ b.tokens))) p.short (tt, short_append h.tokens (Mark Arrow ∷ b.tokens) h.short (tt, b.short)));
      spells = subst (Spells Anything (printed_query q)) whole fifth;
    }

-- ---- whole texts

few_terms : (atoms : List AtomRecord) → All IsSoundAtom atoms → AllByRecursion (FewTerms Two) atoms
few_terms [] h = tt
few_terms (a ∷ atoms) h = (let s = All-head IsSoundAtom a atoms h in s.few, few_terms atoms (All-tail IsSoundAtom a atoms h))

-- what the types keep is within format 2
pub fits_two : (q : QueryRecord) → IsSoundQuery q → FitsQuery Two q
fits_two q s =
    let f = fits q s.query in
    (f.posts, f.heads, f.body, few_terms q.posts s.posts, few_terms q.heads s.heads, few_terms q.body s.body)

module _ (P : List ℕ → Type 0) (ends : P []) (bytes : List ℕ) (G : List TokenContent → Type 0) (r : Reads P bytes G) where
  whole : tokens_of (lexemes_of bytes) ≡ r.tokens
  whole = spells_whole P bytes r.tokens ends r.spells

  pub allowed : G (tokens_of (lexemes_of bytes))
  allowed = subst G (sym whole) r.is

  pub all_short : AllByRecursion IsShort (tokens_of (lexemes_of bytes))
  all_short = subst (AllByRecursion IsShort) (sym whole) r.short

pub atom_back : (form : Form) (a : AtomRecord) → IsSoundAtom a → FewTerms form a → StandsForAtom form (printed_atom a) a
atom_back form a s few =
    let r = reads_atom a s in
    (line_atom form a s few, allowed Anything tt (printed_atom a) (λ ts. IsAtomText ts a) r, all_short Anything tt (printed_atom a) (λ ts. IsAtomText ts a) r, few)

pub row_back : (form : Form) (w : RowRecord) → IsSoundRow w → length w.values ≤ most_terms form → StandsForRow form (printed_row w) w
row_back form w s few =
    let r = reads_row w s in
    (line_row form w s few, record { sentence = allowed Anything tt (printed_row w) (λ ts. IsRowText ts w) r; short = all_short Anything tt (printed_row w) (λ ts. IsRowText ts w) r; fits = few })

pub query_back : (form : Form) (q : QueryRecord) → IsSoundQuery q → FitsQuery form q → StandsForQuery form (printed_query q) q
query_back form q s few =
    let f = fits q s.query in
    let r = reads_query q f.offered s.posts s.heads s.body in
    let G : List TokenContent → Type 0 = λ ts. IsQueryText ts q in (
      line_query form q few s.posts s.heads s.body,
      record { sentence = allowed Anything tt (printed_query q) G r; short = all_short Anything tt (printed_query q) G r; fits = few },
      f.restricted,
    )

-- what is true of the bytes that a new text got is true of the text
pub of_new : (P : List ℕ → Type 0) (old new bytes : List ℕ) → old ≡ [] → new ≡ old ++ bytes → P bytes → P new
of_new P old new bytes e f h = subst P (sym (f ∙ ap (λ (o : List ℕ). o ++ bytes) e)) h
