-- How long a printed text is at most.
use Rattle.std.proofs.Common.{◌≡◌, ℕ, ◌+◌, ◌*◌, ◌^◌, ◌<◌, ◌≤◌, Bool, true, false, cond, List, [], ◌∷◌, ◌++◌, length, refl, arith}
use Rattle.std.specs.Prelude.{◌&&◌, ◌||◌, ◌==◌, IsTrue, codes, nat_le}
use Rattle.std.specs.Int.Signed.{mag}
use Rattle.std.specs.Str.{is_utf8}
use Rattle.std.specs.List.{All, join_by, flat_map, list_all}
use Rattle.std.proofs.lemmas.Bool.Decides.{nat_tests}
use Rattle.std.proofs.lemmas.Fmt.{length_signed_le}
use Rattle.std.proofs.lemmas.List.{length-append}
use Rattle.std.proofs.lemmas.List.Elements.{All-head, All-tail}
use Rattle.cq_atom.specs.declared.value.Content.TheVariants.{Number, Text}
use Rattle.cq_atom.specs.declared.term.TermKind.TheVariants.{Constant, Variable}
use Rattle.cq_atom.specs.Limits.{max_text}
use Rattle.cq_atom.specs.Text.{is_plain_byte, is_name, begins_with_lower, begins_with_upper, is_text}
use Rattle.cq_atom.specs.Value.{ValueContent, IsValue}
use Rattle.cq_atom.specs.Atom.{TermContent, AtomRecord, RowRecord}
use Rattle.cq_atom.specs.Query.{QueryRecord}
use Rattle.cq_text.specs.Print.{escaped_byte, escaped, printed_value, printed_term, printed_atom, printed_row, printed_atoms, printed_body, printed_query}
use Rattle.cq_text.specs.Sound.{IsSoundTerm, IsSoundAtom, IsSoundRow}
use Rattle.cq_text.proofs.PrintedTokens.{and_parts, short_name}
use Rattle.std.specs.List.{AllByRecursion}
use Rattle.cq_text.specs.declared.form.Form.{Form}
use Rattle.cq_text.specs.declared.form.Form.TheVariants.{One, Two}
use Rattle.cq_text.specs.Forms.{most_terms, most_atoms, most_bytes}
use Rattle.cq_text.specs.Grammar.{FewTerms, FitsQuery}

short_byte : (b : ℕ) → length (escaped_byte b) ≤ 2
short_byte b = by_case ((b == 34) || (b == 92)) refl
  where
    by_case : (t : Bool) → ((b == 34) || (b == 92)) ≡ t → length (cond ((b == 34) || (b == 92)) (92 ∷ b ∷ []) (b ∷ [])) ≤ 2
    by_case true e = rw e (omega arith)
    by_case false e = rw e (omega arith)

length_escaped : (s : List ℕ) → length (escaped s) ≤ 2 * length s
length_escaped [] = omega arith
length_escaped (b ∷ s) = let first = short_byte b in let others = length_escaped s in omega (arith, length-append (escaped_byte b) (escaped s))

length_text : (s : List ℕ) → IsTrue (is_text s) → length s ≤ 255
length_text s h =
    let p = and_parts (is_utf8 s) (nat_le (length s) max_text && list_all is_plain_byte s) h in
    let q = and_parts (nat_le (length s) max_text) (list_all is_plain_byte s) p.1 in
    grind (arith, nat_tests, q.0)

length_value : (v : ValueContent) → IsValue v → length (printed_value v) ≤ 512
length_value (Number n) h =
    let small : mag n < 2 ^ 63 = h.sfits in
    let k = length_signed_le 19 n (omega arith) small in
    omega arith
length_value (Text s) h =
    let short = length_text s h in
    let twice = length_escaped s in
    omega (arith, length-append (34 ∷ escaped s) (34 ∷ []))

length_term : (t : TermContent) → IsSoundTerm t → length (printed_term t) ≤ 512
length_term (Constant v) h = length_value v h
length_term (Variable x) h = let k = short_name x (and_parts (is_name x) (begins_with_lower x) h).0 in omega arith

module _ {X : Type 0} (f : X → List ℕ) (S : X → Type 0) (most : ℕ) (each : (x : X) → S x → length (f x) ≤ most) where
  length_behind : (xs : List X) → All S xs → length (flat_map (λ x. codes ", " ++ f x) xs) ≤ length xs * (most + 2)
  length_behind [] h = omega arith
  length_behind (x ∷ xs) h =
      let first = each x (All-head S x xs h) in
      let others = length_behind xs (All-tail S x xs h) in
      omega (arith, length-append (44 ∷ 32 ∷ f x) (flat_map (λ y. codes ", " ++ f y) xs))

  length_joined : (xs : List X) → All S xs → length (join_by f (codes ", ") xs) ≤ length xs * (most + 2)
  length_joined [] h = omega arith
  length_joined (x ∷ xs) h =
      let first = each x (All-head S x xs h) in
      let others = length_behind xs (All-tail S x xs h) in
      omega (arith, length-append (f x) (flat_map (λ y. codes ", " ++ f y) xs))

-- the most bytes that an atom or a row takes
abbrev longest : Form → ℕ
longest form = 34 + most_terms form * 514

length_applied : (form : Form) (relation items : List ℕ) (count : ℕ) → length relation ≤ 32 → length items ≤ count * 514 → count ≤ most_terms form → length (relation ++ codes "(" ++ items ++ codes ")") ≤ longest form
length_applied form relation items count r i c = simp length-append (omega arith)

length_atom : (form : Form) (a : AtomRecord) → IsSoundAtom a → FewTerms form a → length (printed_atom a) ≤ longest form
length_atom form a s few =
    length_applied form a.relation (join_by printed_term (codes ", ") a.terms) (length a.terms) (short_name a.relation (and_parts (is_name a.relation) (begins_with_upper a.relation) s.relation).0)
    (length_joined printed_term IsSoundTerm 512 length_term a.terms s.terms) few

length_row : (form : Form) (r : RowRecord) → IsSoundRow r → length r.values ≤ most_terms form → length (printed_row r) ≤ longest form
length_row form r s few =
    length_applied form r.relation (join_by printed_value (codes ", ") r.values) (length r.values) (short_name r.relation (and_parts (is_name r.relation) (begins_with_upper r.relation) s.relation).0)
    (length_joined printed_value IsValue 512 length_value r.values s.values) few

atoms_behind : (form : Form) (most : ℕ) → longest form ≤ most → (atoms : List AtomRecord) → All IsSoundAtom atoms → AllByRecursion (FewTerms form) atoms → length (flat_map (λ a. codes ", " ++ printed_atom a) atoms) ≤ length atoms * (most + 2)
atoms_behind form most le [] h f = omega arith
atoms_behind form most le (a ∷ atoms) h f =
    let first = length_atom form a (All-head IsSoundAtom a atoms h) f.0 in
    let others = atoms_behind form most le atoms (All-tail IsSoundAtom a atoms h) f.1 in
    omega (arith, length-append (44 ∷ 32 ∷ printed_atom a) (flat_map (λ b. codes ", " ++ printed_atom b) atoms))

atoms_joined : (form : Form) (most : ℕ) → longest form ≤ most → (atoms : List AtomRecord) → All IsSoundAtom atoms → AllByRecursion (FewTerms form) atoms → length (printed_atoms atoms) ≤ length atoms * (most + 2)
atoms_joined form most le [] h f = omega arith
atoms_joined form most le (a ∷ atoms) h f =
    let first = length_atom form a (All-head IsSoundAtom a atoms h) f.0 in
    let others = atoms_behind form most le atoms (All-tail IsSoundAtom a atoms h) f.1 in
    omega (arith, length-append (printed_atom a) (flat_map (λ b. codes ", " ++ printed_atom b) atoms))

-- the most bytes that the atoms of a part take
abbrev longest_part : Form → ℕ
longest_part form = most_atoms form * (longest form + 2)

length_atoms : (form : Form) (atoms : List AtomRecord) → length atoms ≤ most_atoms form → All IsSoundAtom atoms → AllByRecursion (FewTerms form) atoms → length (printed_atoms atoms) ≤ longest_part form
length_atoms One atoms few h f = let k = atoms_joined One (longest One) (omega arith) atoms h f in omega arith
length_atoms Two atoms few h f = let k = atoms_joined Two (longest Two) (omega arith) atoms h f in omega arith

length_body : (form : Form) (atoms : List AtomRecord) → length atoms ≤ most_atoms form → All IsSoundAtom atoms → AllByRecursion (FewTerms form) atoms → length (printed_body atoms) ≤ longest_part form + 1
length_body form [] few h f = omega arith
length_body form (a ∷ atoms) few h f = let k = length_atoms form (a ∷ atoms) few h f in omega arith

-- the longest row or atom, and the longest query, leave 64 bytes of a line of the form for what comes before them
within_line : (form : Form) → longest form + 64 ≤ most_bytes form
within_line One = omega arith
within_line Two = omega arith

parts_within : (form : Form) → 3 * longest_part form + 72 ≤ most_bytes form
parts_within One = omega arith
parts_within Two = omega arith

pub line_atom : (form : Form) (a : AtomRecord) → IsSoundAtom a → FewTerms form a → length (printed_atom a) ≤ most_bytes form
line_atom form a s few = let k = length_atom form a s few in let w = within_line form in omega arith

pub line_after_row : (form : Form) (r : RowRecord) → IsSoundRow r → length r.values ≤ most_terms form → length (printed_row r) + 64 ≤ most_bytes form
line_after_row form r s few = let k = length_row form r s few in let w = within_line form in omega arith

pub line_row : (form : Form) (r : RowRecord) → IsSoundRow r → length r.values ≤ most_terms form → length (printed_row r) ≤ most_bytes form
line_row form r s few = let k = line_after_row form r s few in omega arith

query_by_parts : (most p h b : ℕ) (q : QueryRecord) → length (printed_atoms q.posts) ≤ p → length (printed_atoms q.heads) ≤ h → length (printed_body q.body) ≤ b → p + h + b + 7 ≤ most → length (printed_query q) ≤ most
query_by_parts most p h b q lp lh lb le = simp length-append (omega arith)

pub line_after_query : (form : Form) (q : QueryRecord) → FitsQuery form q → All IsSoundAtom q.posts → All IsSoundAtom q.heads → All IsSoundAtom q.body → length (printed_query q) + 64 ≤ most_bytes form
line_after_query form q f sp sh sb =
    let p = length_atoms form q.posts f.0 sp f.3 in
    let h = length_atoms form q.heads f.1 sh f.4 in
    let b = length_body form q.body f.2 sb f.5 in
    let w = parts_within form in
    let k = query_by_parts (3 * longest_part form + 8) (longest_part form) (longest_part form) (longest_part form + 1) q p h b (omega arith) in
    omega arith

pub line_query : (form : Form) (q : QueryRecord) → FitsQuery form q → All IsSoundAtom q.posts → All IsSoundAtom q.heads → All IsSoundAtom q.body → length (printed_query q) ≤ most_bytes form
line_query form q f sp sh sb = let k = line_after_query form q f sp sh sb in omega arith
