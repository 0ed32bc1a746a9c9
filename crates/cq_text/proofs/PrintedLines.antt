-- A printed command is one line: no byte of it ends a line.
use Rattle.std.proofs.Common.{◌≡◌, ◌≢◌, ℕ, suc, ◌^◌, ◌<◌, Bool, true, false, cond, List, [], ◌∷◌, ◌++◌, length, refl, ◌∙◌, arith}
use Rattle.std.specs.Prelude.{not, ◌&&◌, ◌||◌, ◌==◌, IsTrue, codes, pos, negsuc, nat_le}
use Rattle.std.specs.Fmt.{decimal}
use Rattle.std.specs.Str.{is_utf8}
use Rattle.std.specs.Char.{is_ascii_digit}
use Rattle.std.specs.List.{All, AllByRecursion, list_all, flat_map, join_by}
use Rattle.std.proofs.lemmas.Bool.Decides.{nat_tests}
use Rattle.std.proofs.lemmas.Fmt.{digits_decimal}
use Rattle.std.proofs.lemmas.List.Elements.{All-head, All-tail, All-from_recursion}
use Rattle.std.proofs.lemmas.List.Folds.{list_all-append}
use Rattle.cq_atom.specs.Limits.{max_name, max_text}
use Rattle.cq_atom.specs.declared.value.Content.TheVariants.{Number, Text}
use Rattle.cq_atom.specs.declared.term.TermKind.TheVariants.{Constant, Variable}
use Rattle.cq_atom.specs.declared.edit.EditKind.TheVariants.{Post, Withdraw, Insert, Delete}
use Rattle.cq_atom.specs.Text.{is_name, is_text, is_word_byte, is_plain_byte, begins_with_letter, begins_with_lower, begins_with_upper}
use Rattle.cq_atom.specs.Value.{ValueContent, IsValue}
use Rattle.cq_atom.specs.Atom.{TermContent, AtomRecord, RowRecord}
use Rattle.cq_atom.specs.Query.{QueryRecord}
use Rattle.cq_text.specs.declared.command.CommandKind.TheVariants.{Blank, Setup, Edit, Publish, Show}
use Rattle.cq_text.specs.declared.command.SetupLine.TheVariants.{Relation, Board, Limits}
use Rattle.cq_text.specs.declared.form.Form.{Form}
use Rattle.cq_text.specs.declared.form.Form.TheVariants.{One, Two}
use Rattle.cq_text.specs.Forms.{most_terms, number_of_form}
use Rattle.cq_text.specs.Grammar.{CommandContent, FitsCommand}
use Rattle.cq_text.specs.Print.{escaped, escaped_byte, printed_text, printed_value, printed_term, printed_atom, printed_atoms, printed_row, printed_body, printed_query, printed_command}
use Rattle.cq_text.specs.Sound.{IsSoundTerm, IsSoundAtom, IsSoundRow, IsSoundQuery, IsSoundCommand}
use Rattle.cq_text.proofs.PrintedTokens.{and_parts, numerals}

-- no byte ends a line
abbrev goes_on : ℕ → Bool
goes_on b = not (b == 10)

abbrev IsLine : List ℕ → Type 0
IsLine bs = list_all goes_on bs ≡ true

line_both : (a b : List ℕ) → IsLine a → IsLine b → IsLine (a ++ b)
line_both a b h k = list_all-append goes_on a b ∙ rw (h, k) refl

-- bytes that pass a test which no end of a line passes
line_of : (p : ℕ → Bool) → ((b : ℕ) → p b ≡ true → goes_on b ≡ true) → (bs : List ℕ) → list_all p bs ≡ true → IsLine bs
line_of p h [] e = refl
line_of p h (b ∷ bs) e = let parts = and_parts (p b) (list_all p bs) e in rw (h b parts.0, line_of p h bs parts.1) refl

word_goes_on : (b : ℕ) → is_word_byte b ≡ true → goes_on b ≡ true
word_goes_on b e = grind (arith, nat_tests)

digit_goes_on : (b : ℕ) → is_ascii_digit b ≡ true → goes_on b ≡ true
digit_goes_on b e = grind (arith, nat_tests)

plain_goes_on : (b : ℕ) → is_plain_byte b ≡ true → goes_on b ≡ true
plain_goes_on b e = grind (arith, nat_tests)

line_name : (w : List ℕ) → IsTrue (is_name w) → IsLine w
line_name w h =
    let p = and_parts (begins_with_letter w) (nat_le (length w) max_name && list_all is_word_byte w) h in
    line_of is_word_byte word_goes_on w (and_parts (nat_le (length w) max_name) (list_all is_word_byte w) p.1).1

line_decimal : (n : ℕ) → n < 2 ^ 64 → IsLine (decimal n)
line_decimal n lt = line_of is_ascii_digit digit_goes_on (decimal n) (digits_decimal numerals n lt)

line_escaped : (s : List ℕ) → IsLine s → IsLine (escaped s)
line_escaped [] h = refl
line_escaped (b ∷ s) h =
    let parts = and_parts (goes_on b) (list_all goes_on s) h in
    line_both (escaped_byte b) (escaped s) (by_case ((b == 34) || (b == 92)) refl parts.0) (line_escaped s parts.1)
  where
    by_case : (t : Bool) → ((b == 34) || (b == 92)) ≡ t → goes_on b ≡ true → IsLine (cond ((b == 34) || (b == 92)) (92 ∷ b ∷ []) (b ∷ []))
    by_case true e g = rw (e, g) refl
    by_case false e g = rw (e, g) refl

line_text : (s : List ℕ) → IsTrue (is_text s) → IsLine (printed_text s)
line_text s h =
    let p = and_parts (is_utf8 s) (nat_le (length s) max_text && list_all is_plain_byte s) h in
    let plain = line_of is_plain_byte plain_goes_on s (and_parts (nat_le (length s) max_text) (list_all is_plain_byte s) p.1).1 in
    line_both (34 ∷ escaped s) (34 ∷ []) (line_escaped s plain) refl

line_value : (v : ValueContent) → IsValue v → IsLine (printed_value v)
line_value (Number (pos n)) h = let lt = h.sfits in line_decimal n (omega arith)
line_value (Number (negsuc n)) h = let lt = h.sfits in line_both (45 ∷ []) (decimal (suc n)) refl (line_decimal (suc n) (omega arith))
line_value (Text s) h = line_text s h

line_term : (t : TermContent) → IsSoundTerm t → IsLine (printed_term t)
line_term (Constant v) h = line_value v h
line_term (Variable x) h = line_name x (and_parts (is_name x) (begins_with_lower x) h).0

module _ {X : Type 0} (f : X → List ℕ) (S : X → Type 0) (each : (x : X) → S x → IsLine (f x)) where
  line_behind : (xs : List X) → All S xs → IsLine (flat_map (λ x. codes ", " ++ f x) xs)
  line_behind [] h = refl
  line_behind (x ∷ xs) h = line_both (codes ", " ++ f x) (flat_map (λ y. codes ", " ++ f y) xs) (each x (All-head S x xs h)) (line_behind xs (All-tail S x xs h))

  line_joined : (xs : List X) → All S xs → IsLine (join_by f (codes ", ") xs)
  line_joined [] h = refl
  line_joined (x ∷ xs) h = line_both (f x) (flat_map (λ y. codes ", " ++ f y) xs) (each x (All-head S x xs h)) (line_behind xs (All-tail S x xs h))

line_applied : (relation items : List ℕ) → IsTrue (is_name relation) → IsLine items → IsLine (relation ++ codes "(" ++ items ++ codes ")")
line_applied relation items n h = line_both (relation ++ codes "(" ++ items) (codes ")") (line_both (relation ++ codes "(") items (line_both relation (codes "(") (line_name relation n) refl) h) refl

line_atom : (a : AtomRecord) → IsSoundAtom a → IsLine (printed_atom a)
line_atom a s = line_applied a.relation (join_by printed_term (codes ", ") a.terms) (and_parts (is_name a.relation) (begins_with_upper a.relation) s.relation).0 (line_joined printed_term IsSoundTerm line_term a.terms s.terms)

line_row : (r : RowRecord) → IsSoundRow r → IsLine (printed_row r)
line_row r s = line_applied r.relation (join_by printed_value (codes ", ") r.values) (and_parts (is_name r.relation) (begins_with_upper r.relation) s.relation).0 (line_joined printed_value IsValue line_value r.values s.values)

line_atoms : (atoms : List AtomRecord) → All IsSoundAtom atoms → IsLine (printed_atoms atoms)
line_atoms atoms h = line_joined printed_atom IsSoundAtom line_atom atoms h

line_body : (atoms : List AtomRecord) → All IsSoundAtom atoms → IsLine (printed_body atoms)
line_body [] h = refl
line_body (a ∷ atoms) h = line_atoms (a ∷ atoms) h

line_query : (q : QueryRecord) → IsSoundQuery q → IsLine (printed_query q)
line_query q s =
    let posts = codes "{" ++ printed_atoms q.posts in
    let heads = posts ++ codes "} " ++ printed_atoms q.heads in
    line_both (heads ++ codes " <-") (printed_body q.body)
    (line_both heads (codes " <-") (line_both (posts ++ codes "} ") (printed_atoms q.heads) (line_both posts (codes "} ") (line_atoms q.posts s.posts) refl) (line_atoms q.heads s.heads)) refl)
    (line_body q.body s.body)

few_terms : (form : Form) → most_terms form < 17
few_terms One = omega arith
few_terms Two = omega arith

line_form : (form : Form) → IsLine (decimal (number_of_form form))
line_form One = line_decimal 1 (omega arith)
line_form Two = line_decimal 2 (omega arith)

line_command : (form : Form) (c : CommandContent) → IsSoundCommand c → FitsCommand form c → IsLine (printed_command c)
line_command form Blank s f = refl
line_command form (Setup (Relation name arity)) s f =
    let few = few_terms form in
    let low = f.1 in
    let n = line_name name (and_parts (is_name name) (begins_with_upper name) s).0 in
    line_both (codes "relation " ++ name ++ codes " ") (decimal arity) (line_both (codes "relation " ++ name) (codes " ") (line_both (codes "relation ") name refl n) refl) (line_decimal arity (omega arith))
line_command form (Setup (Board b)) s f = line_both (codes "board ") (decimal (number_of_form b)) refl (line_form b)
line_command form (Setup (Limits pool journal)) s f =
    let p = f.1 in
    let j = f.3 in
    line_both (codes "limits " ++ decimal pool ++ codes " ") (decimal journal) (line_both (codes "limits " ++ decimal pool) (codes " ") (line_both (codes "limits ") (decimal pool) refl (line_decimal pool (omega arith))) refl) (line_decimal journal (omega arith))
line_command form (Edit (Post name query)) s f =
    line_both (codes "post " ++ name ++ codes " ") (printed_query query) (line_both (codes "post " ++ name) (codes " ") (line_both (codes "post ") name refl (line_name name s.0)) refl) (line_query query s.1)
line_command form (Edit (Withdraw name)) s f = line_both (codes "withdraw ") name refl (line_name name s)
line_command form (Edit (Insert row)) s f = line_both (codes "insert ") (printed_row row) refl (line_row row s)
line_command form (Edit (Delete row)) s f = line_both (codes "delete ") (printed_row row) refl (line_row row s)
line_command form Publish s f = refl
line_command form Show s f = refl

no_end : (bs : List ℕ) → IsLine bs → AllByRecursion (λ b. b ≢ 10) bs
no_end [] h = tt
no_end (b ∷ bs) h = let parts = and_parts (goes_on b) (list_all goes_on bs) h in (let go = parts.0 in λ e. absurd (let never : false ≡ true = rw e at go in cc), no_end bs parts.1)

pub command_is_line : (form : Form) (c : CommandContent) → IsSoundCommand c → FitsCommand form c → All (λ b. b ≢ 10) (printed_command c)
command_is_line form c s f = All-from_recursion (λ b. b ≢ 10) (printed_command c) (no_end (printed_command c) (line_command form c s f))
