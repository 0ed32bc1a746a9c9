-- A printed command stands for the command.
use Rattle.std.proofs.Common.{ℕ, ◌+◌, ◌^◌, ◌<◌, ◌≤◌, List, [], ◌∷◌, ◌++◌, length, refl, subst, arith, inl, inr}
use Rattle.std.specs.Prelude.{IsTrue, codes, pos}
use Rattle.std.specs.Fmt.{decimal}
use Rattle.std.proofs.lemmas.Fmt.{length-decimal-le}
use Rattle.std.proofs.lemmas.List.{append-nil, length-append}
use Rattle.cq_atom.specs.declared.value.Content.TheVariants.{Number}
use Rattle.cq_atom.specs.declared.edit.EditKind.TheVariants.{Post, Withdraw, Insert, Delete}
use Rattle.cq_atom.specs.Text.{is_name, begins_with_upper}
use Rattle.cq_atom.specs.Edit.{Edit as EditContent}
use Rattle.cq_atom.specs.Atom.{RowRecord}
use Rattle.cq_atom.specs.Query.{QueryRecord}
use Rattle.cq_text.specs.declared.command.CommandKind.TheVariants.{Blank, Setup, Edit, Publish, Show}
use Rattle.cq_text.specs.declared.command.SetupLine.TheVariants.{Relation, Board, Limits}
use Rattle.cq_text.specs.declared.form.Form.{Form}
use Rattle.cq_text.specs.declared.form.Form.TheVariants.{One, Two}
use Rattle.cq_text.specs.declared.token.Token.TheVariants.{Word, Literal}
use Rattle.cq_text.specs.Token.{TokenContent}
use Rattle.cq_text.specs.Forms.{most_terms, most_bytes, number_of_form}
use Rattle.cq_text.specs.Grammar.{CommandContent, IsSentence, IsRowText, FitsCommand, IsRestrictedCommand, StandsFor}
use Rattle.cq_text.specs.Print.{printed_row, printed_query, printed_command}
use Rattle.cq_text.specs.Sound.{IsSoundRow, IsSoundQuery, IsSoundCommand}
use Rattle.cq_text.proofs.PrintedBound.{fits}
use Rattle.cq_text.proofs.PrintedLengths.{line_after_row, line_after_query}
use Rattle.cq_text.proofs.PrintedTokens.{Spells, Anything, Ended, spells_then, spells_name, short_name, spells_positive, spells_space, and_parts}
use Rattle.cq_text.proofs.PrintedBack.{Reads, reads_row, reads_query, allowed, all_short, fits_two}

-- ---- the tokens of a line

-- a space after what spells tokens
spaced : (bytes : List ℕ) (ts : List TokenContent) → Spells Ended bytes ts → Spells Anything (bytes ++ codes " ") ts
spaced bytes ts s = subst (Spells Anything (bytes ++ codes " ")) (append-nil ts) (spells_then Ended Anything bytes (codes " ") ts [] s (λ rest a. refl) spells_space)

-- a word and a space
opened : (word : List ℕ) → IsTrue (is_name word) → Spells Anything (word ++ codes " ") (Word word ∷ [])
opened word h = spaced word (Word word ∷ []) (spells_name word h)

-- a word and a name
named : (word name : List ℕ) → IsTrue (is_name word) → IsTrue (is_name name) → Spells Ended (word ++ codes " " ++ name) (Word word ∷ Word name ∷ [])
named word name h n = spells_then Anything Ended (word ++ codes " ") name (Word word ∷ []) (Word name ∷ []) (opened word h) (λ rest a. tt) (spells_name name n)

-- tokens more after what spells some
continued : (Q : List ℕ → Type 0) (bytes more : List ℕ) (ts others : List TokenContent) → Spells Anything bytes ts → Spells Q more others → Spells Q (bytes ++ more) (ts ++ others)
continued Q bytes more ts others s r = spells_then Anything Q bytes more ts others s (λ rest a. tt) r

-- the line of an edit of a row
row_after : (word : List ℕ) (row : RowRecord) (G : List TokenContent → Type 0) → IsTrue (is_name word) → IsSoundRow row → ((ts : List TokenContent) → IsRowText ts row → G (Word word ∷ ts)) → Reads Anything (word ++ codes " " ++ printed_row row) G
row_after word row G h s g =
    let r = reads_row row s in
    record {
      tokens = Word word ∷ r.tokens;
      is = g r.tokens r.is;
      short = (short_name word h, r.short);
      spells = continued Anything (word ++ codes " ") (printed_row row) (Word word ∷ []) r.tokens (opened word h) r.spells;
    }

reads_post : (name : List ℕ) (query : QueryRecord) → IsTrue (is_name name) → IsSoundQuery query → Reads Anything (printed_command (Edit (Post name query))) (λ ts. IsSentence ts (Edit (Post name query)))
reads_post name query n s =
    let r = reads_query query (fits query s.query).offered s.posts s.heads s.body in
    let before : List TokenContent = Word (codes "post") ∷ Word name ∷ [] in
    record {
      tokens = Word (codes "post") ∷ Word name ∷ r.tokens;
      is = (r.tokens, refl, r.is);
      short = (short_name (codes "post") refl, (short_name name n, r.short));
      spells = continued Anything (codes "post " ++ name ++ codes " ") (printed_query query) before r.tokens (spaced (codes "post " ++ name) before (named (codes "post") name refl n)) r.spells;
    }

reads_withdraw : (name : List ℕ) → IsTrue (is_name name) → Reads Ended (printed_command (Edit (Withdraw name))) (λ ts. IsSentence ts (Edit (Withdraw name)))
reads_withdraw name n = record {
  tokens = Word (codes "withdraw") ∷ Word name ∷ [];
  is = refl;
  short = (short_name (codes "withdraw") refl, (short_name name n, tt));
  spells = named (codes "withdraw") name refl n;
}

reads_relation : (name : List ℕ) (arity : ℕ) → IsTrue (is_name name) → IsTrue (begins_with_upper name) → arity < 2 ^ 63 → Reads Ended (printed_command (Setup (Relation name arity))) (λ ts. IsSentence ts (Setup (Relation name arity)))
reads_relation name arity n u lt =
    let before : List TokenContent = Word (codes "relation") ∷ Word name ∷ [] in
    record {
      tokens = Word (codes "relation") ∷ Word name ∷ Literal (Number (pos arity)) ∷ [];
      is = (pos arity, refl, u, refl);
      short = (short_name (codes "relation") refl, (short_name name n, (tt, tt)));
      spells = continued Ended (codes "relation " ++ name ++ codes " ") (decimal arity) before (Literal (Number (pos arity)) ∷ []) (spaced (codes "relation " ++ name) before (named (codes "relation") name refl n)) (spells_positive arity lt);
    }

-- a word and a number
counted : (word : List ℕ) (count : ℕ) → IsTrue (is_name word) → count < 2 ^ 63 → Spells Ended (word ++ codes " " ++ decimal count) (Word word ∷ Literal (Number (pos count)) ∷ [])
counted word count h lt = continued Ended (word ++ codes " ") (decimal count) (Word word ∷ []) (Literal (Number (pos count)) ∷ []) (opened word h) (spells_positive count lt)

reads_board : (form : Form) → number_of_form form < 2 ^ 63 → Reads Ended (printed_command (Setup (Board form))) (λ ts. IsSentence ts (Setup (Board form)))
reads_board form lt = record {
  tokens = Word (codes "board") ∷ Literal (Number (pos (number_of_form form))) ∷ [];
  is = refl;
  short = (short_name (codes "board") refl, (tt, tt));
  spells = counted (codes "board") (number_of_form form) refl lt;
}

reads_limits : (pool journal : ℕ) → pool < 2 ^ 63 → journal < 2 ^ 63 → Reads Ended (printed_command (Setup (Limits pool journal))) (λ ts. IsSentence ts (Setup (Limits pool journal)))
reads_limits pool journal p j =
    let before : List TokenContent = Word (codes "limits") ∷ Literal (Number (pos pool)) ∷ [] in
    record {
      tokens = Word (codes "limits") ∷ Literal (Number (pos pool)) ∷ Literal (Number (pos journal)) ∷ [];
      is = (pos pool, pos journal, refl, refl, refl);
      short = (short_name (codes "limits") refl, (tt, (tt, tt)));
      spells = continued Ended (codes "limits " ++ decimal pool ++ codes " ") (decimal journal) before (Literal (Number (pos journal)) ∷ []) (spaced (codes "limits " ++ decimal pool) before (counted (codes "limits") pool refl p)) (spells_positive journal j);
    }

reads_alone : (word : List ℕ) (G : List TokenContent → Type 0) → IsTrue (is_name word) → G (Word word ∷ []) → Reads Ended word G
reads_alone word G h g = record { tokens = Word word ∷ []; is = g; short = (short_name word h, tt); spells = spells_name word h }

-- ---- whole lines

-- a line that is not too long and has the tokens of its command stands for it
stands : (P : List ℕ → Type 0) (form : Form) (c : CommandContent) → P [] → Reads P (printed_command c) (λ ts. IsSentence ts c) → length (printed_command c) ≤ most_bytes form → FitsCommand form c → IsRestrictedCommand c → StandsFor form (printed_command c) c
stands P form c ends r le f restricted =
    let G : List TokenContent → Type 0 = λ ts. IsSentence ts c in
    (le, inr (record { sentence = allowed P ends (printed_command c) G r; short = all_short P ends (printed_command c) G r; fits = f }, restricted))

-- each form has room for a short line
short_line : (form : Form) (bytes : List ℕ) → length bytes ≤ 64 → length bytes ≤ most_bytes form
short_line One bytes le = omega arith
short_line Two bytes le = omega arith

-- what comes after a short prefix leaves room for it
long_line : (form : Form) (before bytes : List ℕ) → length before ≤ 64 → length bytes + 64 ≤ most_bytes form → length (before ++ bytes) ≤ most_bytes form
long_line form before bytes few le = omega (arith, length-append before bytes)

few_terms : (form : Form) → most_terms form ≤ 16
few_terms One = omega arith
few_terms Two = omega arith

small_form : (form : Form) → number_of_form form ≤ 2
small_form One = omega arith
small_form Two = omega arith

pub command_back : (form : Form) (c : CommandContent) → IsSoundCommand c → FitsCommand form c → StandsFor form (printed_command c) c
command_back form Blank s f = (short_line form [] (omega arith), inl (refl, refl))
command_back form (Setup (Relation name arity)) s f =
    let p = and_parts (is_name name) (begins_with_upper name) s in
    let n = short_name name p.0 in
    let m = few_terms form in
    let a = f.1 in
    let d = length-decimal-le 2 arity (omega arith) (omega arith) (omega arith) in
    stands Ended form (Setup (Relation name arity)) tt (reads_relation name arity p.0 p.1 (omega arith)) (short_line form (codes "relation " ++ name ++ codes " " ++ decimal arity) (simp length-append (omega arith))) f tt
command_back form (Setup (Board b)) s f =
    let m = small_form b in
    let d = length-decimal-le 1 (number_of_form b) (omega arith) (omega arith) (omega arith) in
    stands Ended form (Setup (Board b)) tt (reads_board b (omega arith)) (short_line form (codes "board " ++ decimal (number_of_form b)) (simp length-append (omega arith))) f tt
command_back form (Setup (Limits pool journal)) s f =
    let l = f.1 in
    let m = f.3 in
    let p = length-decimal-le 7 pool (omega arith) (omega arith) (omega arith) in
    let j = length-decimal-le 7 journal (omega arith) (omega arith) (omega arith) in
    stands Ended form (Setup (Limits pool journal)) tt (reads_limits pool journal (omega arith) (omega arith)) (short_line form (codes "limits " ++ decimal pool ++ codes " " ++ decimal journal) (simp length-append (omega arith))) f tt
command_back form (Edit (Post name query)) s f =
    let n = short_name name s.0 in
    let k = line_after_query form query f s.1.posts s.1.heads s.1.body in
    stands Anything form (Edit (Post name query)) tt (reads_post name query s.0 s.1) (long_line form (codes "post " ++ name ++ codes " ") (printed_query query) (simp length-append (omega arith)) k) f (fits query s.1.query).restricted
command_back form (Edit (Withdraw name)) s f =
    let n = short_name name s in
    stands Ended form (Edit (Withdraw name)) tt (reads_withdraw name s) (short_line form (codes "withdraw " ++ name) (simp length-append (omega arith))) f tt
command_back form (Edit (Insert row)) s f =
    let k = line_after_row form row s f in
    stands Anything form (Edit (Insert row)) tt (row_after (codes "insert") row (λ ts. IsSentence ts (Edit (Insert row))) refl s (λ ts h. (ts, refl, h))) (long_line form (codes "insert ") (printed_row row) (omega arith) k) f tt
command_back form (Edit (Delete row)) s f =
    let k = line_after_row form row s f in
    stands Anything form (Edit (Delete row)) tt (row_after (codes "delete") row (λ ts. IsSentence ts (Edit (Delete row))) refl s (λ ts h. (ts, refl, h))) (long_line form (codes "delete ") (printed_row row) (omega arith) k) f tt
command_back form Publish s f = stands Ended form Publish tt (reads_alone (codes "publish") (λ ts. IsSentence ts Publish) refl refl) (short_line form (codes "publish") (omega arith)) f tt
command_back form Show s f = stands Ended form Show tt (reads_alone (codes "show") (λ ts. IsSentence ts Show) refl refl) (short_line form (codes "show") (omega arith)) f tt

-- a sound edit fits format 2
pub edit_fits_two : (e : EditContent) → IsSoundCommand (Edit e) → FitsCommand Two (Edit e)
edit_fits_two (Post name query) s = fits_two query s.1
edit_fits_two (Withdraw name) s = tt
edit_fits_two (Insert row) s = s.few
edit_fits_two (Delete row) s = s.few
