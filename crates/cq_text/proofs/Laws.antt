-- Reading gives a command or a query exactly where a text stands for it, and a fault exactly where it is the first.
use Rattle.std.proofs.Common.{◌≡◌, ℕ, ◌+◌, ◌-◌, ◌<◌, ◌≤◌, Bool, true, false, cond, List, [], ◌∷◌, length, Option, Some, None, Result, Ok, Err, refl, sym, ap, subst, ◌∙◌, arith, inl, inr, ◌⊎◌}
use Rattle.std.specs.Prelude.{IfOk, ◌==◌, ◌↔◌}
use Rattle.std.proofs.lemmas.Bool.{eqb-true, cases_lt}
use Rattle.cq_atom.specs.Atom.{RowRecord}
use Rattle.cq_atom.specs.Query.{QueryRecord}
use Rattle.cq_text.specs.declared.fault.Kind.{Kind}
use Rattle.cq_text.specs.declared.fault.Kind.TheVariants as kinds
use Rattle.cq_text.specs.declared.fault.TextFault.{TextFault}
use Rattle.cq_text.specs.declared.fault.TextFault.TheVariants.{At, NoMemory}
use Rattle.cq_text.specs.declared.command.CommandKind.TheVariants.{Blank, Setup, Edit, Publish, Show}
use Rattle.cq_text.specs.declared.command.SetupLine.TheVariants.{Relation, Board, Limits}
use Rattle.cq_atom.specs.declared.edit.EditKind.TheVariants.{Post, Withdraw, Insert, Delete}
use Rattle.cq_text.specs.declared.token.Token.TheVariants.{Word}
use Rattle.cq_text.specs.Token.{TokenContent, LexemeContent, tokens_of}
use Rattle.cq_text.specs.Lexing.{is_space, is_blank, front, lexemes, lexemes_of}
use Rattle.cq_text.specs.Grammar.{FitsRowGrammar, StandsForRow, CommandContent, IsSentence, FitsGrammar, FitsQueryGrammar, StandsFor, StandsForQuery, IsRestricted, IsRestrictedCommand}
use Rattle.cq_text.specs.Fault.{IsLoneRow, UnboundInRow, FirstRowFault, IsCommandText, IsLoneQuery, opening, place_behind, FirstTokenFault, first_unbound_at, behind_brace, UnboundInCommand, UnboundInQuery, FirstFault, FirstQueryFault}
use Rattle.cq_text.specs.Views.{OrNoMemory, IfFault}
use Rattle.cq_text.specs.Steps.Lists.{row_at, bound_query, query_at}
use Rattle.cq_text.specs.Steps.Lexemes.{Ahead, Gives, fault, ◌>>=◌, ahead_of_text}
use Rattle.cq_text.specs.Steps.Commands.{command_at}
use Rattle.cq_text.proofs.Binds.{bind_ok, ok_is, never_ok}
use Rattle.cq_text.proofs.Machine.{command, row_symbols, query_symbols}
use Rattle.cq_text.proofs.Derive.{row_expected, row_from_expected, query_expected, query_from_expected, Is-from_one, Expects-one}
use Rattle.cq_text.proofs.Scan.{Checked, Leave, first_from_scan, scan_from_first}
use Rattle.cq_text.proofs.Runs.{QueryParts, parts_at, query_by_parts, run_query, Parts, posted, whole, command_of_parts, command_parts, command_by_parts, run_command, run_row}
use Rattle.cq_text.proofs.Taken.{QueryRead, parts_ok, query_fits, PostRead, PartsRead, command_parts_ok, post_fits, row_ok}
use Rattle.cq_text.proofs.Again.{parts_again, command_again, row_again}
use Rattle.cq_text.proofs.Bound.{AreGood, scan_good, AllBound, SomeUnbound, bound_or_not, record_of}
use Rattle.cq_text.specs.declared.form.Form.{Form}
use Rattle.cq_text.specs.Forms.{most_bytes}

-- ---- results

abbrev Passes : Checked → Type 0
Passes r = r ≡ Ok tt

passed : {A : Type 0} (r : Result A TextFault) (x : A) → r ≡ Ok x → Passes (r >>= λ y. Ok tt)
passed r x e = ap (λ (s : Result _ TextFault). s >>= λ y. Ok tt) e

only_fault : {A : Type 0} (r : Result A TextFault) (kind : Kind) (offset : ℕ) → ◌≡◌ {A = Checked} (r >>= λ x. Ok tt) (fault kind offset) → r ≡ fault kind offset
only_fault (Ok x) kind offset e = absurd cc
only_fault {A} (Err f) kind offset e = let same : f ≡ At kind offset = cc in ap (λ (g : TextFault). Err g) same

abbrev Faulty : {A : Type 0} → Kind → ℕ → Result A TextFault
Faulty kind offset = fault kind offset

fault_is : {A : Type 0} (k j : Kind) (m n : ℕ) → Faulty {A = A} k m ≡ fault j n → (j ≡ k) × (n ≡ m)
fault_is k j m n e = (cc, cc)

-- ---- commands

leave_command : Leave IsCommandText [] (command ∷ [])
leave_command = record { from = λ more q. Is-from_one command more q; to = λ more s. Expects-one command more s; ordered = (refl, tt) }

pub good_command : (form : Form) → (a : Ahead) (p : Parts) → command_parts form a ≡ Ok p → AreGood a.lexemes
good_command form a p e = scan_good form (command ∷ []) opening a.lexemes a.end (run_command form a ∙ passed (command_parts form a) p e)

behind_post : (form : Form) → (ls : List LexemeContent) (w : List ℕ) (q : QueryParts) (r : (PostRead form) ls w q) → ls ≡ r.word ∷ r.name ∷ r.query.brace ∷ q.3.lexemes
behind_post form ls w q r = r.split ∙ ap (λ (l : List LexemeContent). r.word ∷ r.name ∷ l) r.query.behind

brace_of_post : (form : Form) → (ls : List LexemeContent) (w : List ℕ) (q : QueryParts) → PostRead form ls w q → behind_brace ls ≡ q.3.lexemes
brace_of_post form ls w q r = ap behind_brace (behind_post form ls w q r) ∙ rw (r.is_word, r.is_name, r.query.is_brace) refl

good_behind : (form : Form) → (ls : List LexemeContent) (w : List ℕ) (q : QueryParts) → PostRead form ls w q → AreGood ls → AreGood q.3.lexemes
good_behind form ls w q r g = (subst AreGood (behind_post form ls w q r) g).1.1.1

pub post_verdict : (form : Form) → (ls : List LexemeContent) (w : List ℕ) (q : QueryParts) → PostRead form ls w q → AreGood ls → AllBound q ⊎ SomeUnbound q
post_verdict form ls w q r g = bound_or_not form r.rest q r.query (good_behind form ls w q r g)

abbrev FoundCommand : (form : Form) → Ahead → CommandContent → Type 0
FoundCommand form a c = FitsGrammar form a.lexemes c × IsRestrictedCommand c

found_parts : (form : Form) → (a : Ahead) (p : Parts) (c : CommandContent) → PartsRead form a.lexemes p → AreGood a.lexemes → command_of_parts p ≡ Ok c → FoundCommand form a c
found_parts form a (posted w q) c r g e = elim (post_verdict form a.lexemes w q r g) [
  | inl b ↦
      let made : ◌≡◌ {A = Result CommandContent TextFault} (Ok (Edit (Post w (record_of q)))) (Ok c) = sym (ap (λ (s : Result QueryRecord TextFault). s >>= λ query. Ok (Edit (Post w query))) b.read) ∙ e in
      subst (λ (d : CommandContent). FoundCommand form a d) (ok_is (Edit (Post w (record_of q))) c made) (post_fits form a.lexemes w q r, b.restricted)
  | inr s ↦ absurd (never_ok kinds.Unbound s.offset c (sym (ap (λ (s : Result QueryRecord TextFault). s >>= λ query. Ok (Edit (Post w query))) s.read) ∙ e))
]
found_parts form a (whole d) c r g e = subst (λ (d : CommandContent). FoundCommand form a d) (ok_is d c e) (r.fits, r.restricted)

pub command_found : (form : Form) → (a : Ahead) (c : CommandContent) → command_at form a ≡ Ok c → FoundCommand form a c
command_found form a c e =
    let p = bind_ok (command_parts form a) command_of_parts c (sym (command_by_parts form a) ∙ e) in
    found_parts form a p.0 c (command_parts_ok form a p.0 p.1) (good_command form a p.0 p.1) p.2

by_parts : (form : Form) → (a : Ahead) (p : Parts) → command_parts form a ≡ Ok p → command_at form a ≡ command_of_parts p
by_parts form a p e = command_by_parts form a ∙ ap (λ (r : Result Parts TextFault). r >>= command_of_parts) e

pub command_only : (form : Form) → (a : Ahead) (c : CommandContent) → FitsGrammar form a.lexemes c → IsRestrictedCommand c → command_at form a ≡ Ok c
command_only form a Blank f restricted = absurd f.sentence
command_only form a (Setup (Relation n k)) f restricted = by_parts form a (whole (Setup (Relation n k))) (command_again form a (Setup (Relation n k)) f)
command_only form a (Setup (Board named)) f restricted = by_parts form a (whole (Setup (Board named))) (command_again form a (Setup (Board named)) f)
command_only form a (Setup (Limits m n)) f restricted = by_parts form a (whole (Setup (Limits m n))) (command_again form a (Setup (Limits m n)) f)
command_only form a (Edit (Post w query)) f restricted =
    let r = command_again form a (Edit (Post w query)) f in
    let q : QueryParts = (query.posts, query.heads, query.body, r.0) in
    elim (post_verdict form a.lexemes w q (command_parts_ok form a (posted w q) r.1) (good_command form a (posted w q) r.1)) [
      | inl b ↦ by_parts form a (posted w q) r.1 ∙ ap (λ (s : Result QueryRecord TextFault). s >>= λ query. Ok (Edit (Post w query))) b.read
      | inr s ↦ absurd (s.not_restricted restricted)
    ]
command_only form a (Edit (Withdraw n)) f restricted = by_parts form a (whole (Edit (Withdraw n))) (command_again form a (Edit (Withdraw n)) f)
command_only form a (Edit (Insert row)) f restricted = by_parts form a (whole (Edit (Insert row))) (command_again form a (Edit (Insert row)) f)
command_only form a (Edit (Delete row)) f restricted = by_parts form a (whole (Edit (Delete row))) (command_again form a (Edit (Delete row)) f)
command_only form a Publish f restricted = by_parts form a (whole Publish) (command_again form a Publish f)
command_only form a Show f restricted = by_parts form a (whole Show) (command_again form a Show f)

abbrev CommandFault : (form : Form) → Ahead → Kind → ℕ → Type 0
CommandFault form a kind offset = FirstTokenFault form IsCommandText [] a.lexemes a.end kind offset ⊎ ((kind ≡ kinds.Unbound) × UnboundInCommand form a.lexemes offset)

fault_of_parts : (form : Form) → (a : Ahead) (p : Parts) (kind : Kind) (offset : ℕ) → PartsRead form a.lexemes p → AreGood a.lexemes → command_of_parts p ≡ fault kind offset → CommandFault form a kind offset
fault_of_parts form a (posted w q) kind offset r g e = elim (post_verdict form a.lexemes w q r g) [
  | inl b ↦ absurd (never_ok kind offset (Edit (Post w (record_of q))) (sym e ∙ ap (λ (s : Result QueryRecord TextFault). s >>= λ query. Ok (Edit (Post w query))) b.read))
  | inr s ↦
      let same = fault_is kinds.Unbound kind s.offset offset (sym (ap (λ (s : Result QueryRecord TextFault). s >>= λ query. Ok (Edit (Post w query))) s.read) ∙ e) in
      inr (same.0, (w, record_of q, post_fits form a.lexemes w q r, ap (first_unbound_at q.2) (brace_of_post form a.lexemes w q r) ∙ s.first ∙ ap (λ (n : ℕ). Some n) (sym same.1)))
]
fault_of_parts form a (whole c) kind offset r g e = absurd (never_ok kind offset c (sym e))

pub command_fault : (form : Form) → (a : Ahead) (kind : Kind) (offset : ℕ) → command_at form a ≡ fault kind offset → CommandFault form a kind offset
unfolding place_behind
command_fault form a kind offset e = by_case (command_parts form a) refl (sym (command_by_parts form a) ∙ e)
  where
    by_case : (r : Result Parts TextFault) → command_parts form a ≡ r → (r >>= command_of_parts) ≡ fault kind offset → CommandFault form a kind offset
    by_case (Ok p) d h = fault_of_parts form a p kind offset (command_parts_ok form a p d) (good_command form a p d) h
    by_case (Err f) d h =
        let same : f ≡ At kind offset = cc in
        inl (first_from_scan form IsCommandText [] (command ∷ []) a.lexemes a.end kind offset leave_command (run_command form a ∙ ap (λ (r : Result Parts TextFault). r >>= λ x. Ok tt) d ∙ ap (λ (g : TextFault). Err g) same))

some_none : (n : ℕ) → ◌≡◌ {A = Option ℕ} (Some n) None → ⊥
some_none n e = cc

some_same : (m n : ℕ) → Some m ≡ Some n → m ≡ n
some_same m n e = cc

pub command_only_fault : (form : Form) → (a : Ahead) (kind : Kind) (offset : ℕ) → CommandFault form a kind offset → command_at form a ≡ fault kind offset
unfolding place_behind
command_only_fault form a kind offset (inl h) =
    let e = only_fault (command_parts form a) kind offset (sym (run_command form a) ∙ scan_from_first form IsCommandText [] (command ∷ []) a.lexemes a.end kind offset leave_command h) in
    command_by_parts form a ∙ ap (λ (r : Result Parts TextFault). r >>= command_of_parts) e
command_only_fault form a kind offset (inr (k, (w, query, f, at))) =
    let r = command_again form a (Edit (Post w query)) f in
    let q : QueryParts = (query.posts, query.heads, query.body, r.0) in
    let read = command_parts_ok form a (posted w q) r.1 in
    let here : first_unbound_at query.body q.3.lexemes ≡ Some offset = ap (first_unbound_at query.body) (sym (brace_of_post form a.lexemes w q read)) ∙ at in
    elim (post_verdict form a.lexemes w q read (good_command form a (posted w q) r.1)) [
      | inl b ↦ absurd (some_none offset (sym here ∙ b.nowhere))
      | inr s ↦
          by_parts form a (posted w q) r.1 ∙ ap (λ (s : Result QueryRecord TextFault). s >>= λ query. Ok (Edit (Post w query))) s.read
          ∙ ap (λ (n : ℕ). fault kinds.Unbound n) (some_same s.offset offset (sym s.first ∙ here)) ∙ ap (λ (j : Kind). fault j offset) (sym k)
    ]

-- ---- queries

leave_query : Leave IsLoneQuery [] query_symbols
leave_query = record { from = λ more q. query_from_expected more q; to = λ more s. query_expected more s; ordered = (tt, (tt, (tt, (tt, (refl, tt))))) }

good_query : (form : Form) → (a : Ahead) (q : QueryParts) → parts_at form a ≡ Ok q → AreGood a.lexemes
good_query form a q e = scan_good form query_symbols opening a.lexemes a.end (run_query form opening a ∙ passed (parts_at form a) q e)

pub query_verdict : (form : Form) → (a : Ahead) (q : QueryParts) → parts_at form a ≡ Ok q → AllBound q ⊎ SomeUnbound q
query_verdict form a q e =
    let r = parts_ok form a q e in
    bound_or_not form a q r (subst AreGood r.behind (good_query form a q e)).1

brace_of_query : (form : Form) → (a : Ahead) (q : QueryParts) → QueryRead form a q → behind_brace a.lexemes ≡ q.3.lexemes
brace_of_query form a q r = ap behind_brace r.behind ∙ rw r.is_brace refl

abbrev FoundQuery : (form : Form) → Ahead → QueryRecord → Type 0
FoundQuery form a query = FitsQueryGrammar form a.lexemes query × IsRestricted query

pub query_found : (form : Form) → (a : Ahead) (query : QueryRecord) → query_at form a ≡ Ok query → FoundQuery form a query
query_found form a query e =
    let p = bind_ok (parts_at form a) (λ q. bound_query q.0 q.1 q.2 q.3) query (sym (query_by_parts form a) ∙ e) in
    elim (query_verdict form a p.0 p.1) [
      | inl b ↦ subst (λ (x : QueryRecord). FoundQuery form a x) (ok_is (record_of p.0) query (sym b.read ∙ p.2)) (query_fits form a p.0 (parts_ok form a p.0 p.1), b.restricted)
      | inr s ↦ absurd (never_ok kinds.Unbound s.offset query (sym s.read ∙ p.2))
    ]

query_parts : (form : Form) → (a : Ahead) (q : QueryParts) → parts_at form a ≡ Ok q → query_at form a ≡ bound_query q.0 q.1 q.2 q.3
query_parts form a q e = query_by_parts form a ∙ ap (λ (r : Result QueryParts TextFault). r >>= λ x. bound_query x.0 x.1 x.2 x.3) e

pub query_only : (form : Form) → (a : Ahead) (query : QueryRecord) → FitsQueryGrammar form a.lexemes query → IsRestricted query → query_at form a ≡ Ok query
query_only form a query f restricted =
    let r = parts_again form a query f.sentence f.short f.fits in
    let q : QueryParts = (query.posts, query.heads, query.body, r.0) in
    elim (query_verdict form a q r.1) [
      | inl b ↦ query_parts form a q r.1 ∙ b.read
      | inr s ↦ absurd (s.not_restricted restricted)
    ]

abbrev QueryFault : (form : Form) → Ahead → Kind → ℕ → Type 0
QueryFault form a kind offset = FirstTokenFault form IsLoneQuery [] a.lexemes a.end kind offset ⊎ ((kind ≡ kinds.Unbound) × UnboundInQuery form a.lexemes offset)

pub query_fault : (form : Form) → (a : Ahead) (kind : Kind) (offset : ℕ) → query_at form a ≡ fault kind offset → QueryFault form a kind offset
unfolding place_behind
query_fault form a kind offset e = by_case (parts_at form a) refl (sym (query_by_parts form a) ∙ e)
  where
    by_case : (r : Result QueryParts TextFault) → parts_at form a ≡ r → (r >>= λ q. bound_query q.0 q.1 q.2 q.3) ≡ fault kind offset → QueryFault form a kind offset
    by_case (Ok q) d h = elim (query_verdict form a q d) [
      | inl b ↦ absurd (never_ok kind offset (record_of q) (sym h ∙ b.read))
      | inr s ↦
          let same = fault_is kinds.Unbound kind s.offset offset (sym s.read ∙ h) in
          let r = parts_ok form a q d in
          inr (same.0, (record_of q, query_fits form a q r, ap (first_unbound_at q.2) (brace_of_query form a q r) ∙ s.first ∙ ap (λ (n : ℕ). Some n) (sym same.1)))
    ]
    by_case (Err f) d h =
        let same : f ≡ At kind offset = cc in
        inl (first_from_scan form IsLoneQuery [] query_symbols a.lexemes a.end kind offset leave_query (run_query form opening a ∙ ap (λ (r : Result QueryParts TextFault). r >>= λ x. Ok tt) d ∙ ap (λ (g : TextFault). Err g) same))

pub query_only_fault : (form : Form) → (a : Ahead) (kind : Kind) (offset : ℕ) → QueryFault form a kind offset → query_at form a ≡ fault kind offset
unfolding place_behind
query_only_fault form a kind offset (inl h) =
    let e = only_fault (parts_at form a) kind offset (sym (run_query form opening a) ∙ scan_from_first form IsLoneQuery [] query_symbols a.lexemes a.end kind offset leave_query h) in
    query_by_parts form a ∙ ap (λ (r : Result QueryParts TextFault). r >>= λ q. bound_query q.0 q.1 q.2 q.3) e
query_only_fault form a kind offset (inr (k, (query, f, at))) =
    let r = parts_again form a query f.sentence f.short f.fits in
    let q : QueryParts = (query.posts, query.heads, query.body, r.0) in
    let here : first_unbound_at query.body q.3.lexemes ≡ Some offset = ap (first_unbound_at query.body) (sym (brace_of_query form a q (parts_ok form a q r.1))) ∙ at in
    elim (query_verdict form a q r.1) [
      | inl b ↦ absurd (some_none offset (sym here ∙ b.nowhere))
      | inr s ↦
          query_parts form a q r.1 ∙ s.read ∙ ap (λ (n : ℕ). fault kinds.Unbound n) (some_same s.offset offset (sym s.first ∙ here)) ∙ ap (λ (j : Kind). fault j offset) (sym k)
    ]

-- ---- ground atoms

leave_row : Leave IsLoneRow [] row_symbols
leave_row = record { from = λ more q. row_from_expected more q; to = λ more s. row_expected more s; ordered = (tt, (tt, (tt, (tt, tt)))) }

pub row_only : (form : Form) → (a : Ahead) (row : RowRecord) → FitsRowGrammar form a.lexemes row → row_at form a ≡ Ok row
row_only form a row f = row_again form a row f.sentence f.short f.fits

abbrev RowFault : (form : Form) → Ahead → Kind → ℕ → Type 0
RowFault form a kind offset = FirstTokenFault form IsLoneRow [] a.lexemes a.end kind offset ⊎ ((kind ≡ kinds.Unbound) × UnboundInRow a.lexemes offset)

pub row_fault : (form : Form) → (a : Ahead) (kind : Kind) (offset : ℕ) → row_at form a ≡ fault kind offset → RowFault form a kind offset
unfolding place_behind
row_fault form a kind offset e =
    inl (first_from_scan form IsLoneRow [] row_symbols a.lexemes a.end kind offset leave_row (run_row form a ∙ ap (λ (r : Result RowRecord TextFault). r >>= λ x. Ok tt) e))

pub row_only_fault : (form : Form) → (a : Ahead) (kind : Kind) (offset : ℕ) → RowFault form a kind offset → row_at form a ≡ fault kind offset
unfolding place_behind
row_only_fault form a kind offset (inl h) = only_fault (row_at form a) kind offset (sym (run_row form a) ∙ scan_from_first form IsLoneRow [] row_symbols a.lexemes a.end kind offset leave_row h)
row_only_fault form a kind offset (inr (k, none)) = absurd none

-- ---- blank texts

-- what is blank begins no sentence
no_token : (at : ℕ) (text : List ℕ) → is_blank text ≡ true → (w : List ℕ) (more : List TokenContent) → tokens_of (lexemes 0 at text) ≡ Word w ∷ more → ⊥
unfolding lexemes front
no_token at [] e w more h = cc
no_token at (b ∷ bs) e w more h = by_case (is_space b) refl e h (no_token (at + 1) bs)
  where
    hash : (b == 35) ≡ true → tokens_of (cond false (lexemes 0 (at + 1) bs) (record { at = at; token = (front b bs).0 } ∷ lexemes ((front b bs).1 - 1) (at + 1) bs)) ≡ Word w ∷ more → ⊥
    hash k j = let is : b ≡ 35 = eqb-true b 35 k in let first : (front b bs).0 ≡ Word w = cc in never (ap (λ (c : ℕ). (front c bs).0) (sym is) ∙ first)
      where
        never : (front 35 bs).0 ≡ Word w → ⊥
        never m = cc

    by_case : (t : Bool) → is_space b ≡ t → cond t (is_blank bs) (b == 35) ≡ true → tokens_of (cond t (lexemes 0 (at + 1) bs) (record { at = at; token = (front b bs).0 } ∷ lexemes ((front b bs).1 - 1) (at + 1) bs)) ≡ Word w ∷ more
        → (is_blank bs ≡ true → (v : List ℕ) (rest : List TokenContent) → tokens_of (lexemes 0 (at + 1) bs) ≡ Word v ∷ rest → ⊥) → ⊥
    by_case true s k j ih = ih k w more j
    by_case false s k j ih = hash k j

begins_word : (ts : List TokenContent) (c : CommandContent) → IsSentence ts c → (w : List ℕ) × (more : List TokenContent) × (ts ≡ Word w ∷ more)
begins_word ts Blank s = absurd s
begins_word ts (Setup (Relation n a)) (m, e, u, k) = (_, _, e)
begins_word ts (Setup (Board named)) e = (_, _, e)
begins_word ts (Setup (Limits p j)) (m, n, e, k, i) = (_, _, e)
begins_word ts (Edit (Post n query)) (rest, e, q) = (_, _, e)
begins_word ts (Edit (Withdraw n)) e = (_, _, e)
begins_word ts (Edit (Insert row)) (rest, e, r) = (_, _, e)
begins_word ts (Edit (Delete row)) (rest, e, r) = (_, _, e)
begins_word ts Publish e = (_, _, e)
begins_word ts Show e = (_, _, e)

pub blank_alone : (form : Form) → (text : List ℕ) (c : CommandContent) → is_blank text ≡ true → StandsFor form text c → c ≡ Blank
blank_alone form text c e (short, inl (is, blank)) = is
blank_alone form text c e (short, inr (f, restricted)) = let b = begins_word (tokens_of (lexemes_of text)) c f.sentence in absurd (no_token 0 text e b.0 b.1 b.2)

-- ---- what a function returned, by the laws

as_given : {X : Type 0} (r : Result X TextFault) (s : X) → Gives (λ x. x) r (Ok s) → OrNoMemory r (Ok s)
as_given (Ok x) s e = inl (sym e)
as_given (Err NoMemory) s e = inr refl
as_given (Err (At kind offset)) s e = absurd (never_ok kind offset s (sym e))

as_fault : {X : Type 0} (r : Result X TextFault) (kind : Kind) (offset : ℕ) → Gives (λ x. x) r (fault kind offset) → OrNoMemory r (fault kind offset)
as_fault (Ok x) kind offset e = absurd (never_ok kind offset x e)
as_fault (Err NoMemory) kind offset e = inr refl
as_fault (Err (At k o)) kind offset e = inl (sym e)

abbrev ReadText : (form : Form) → Result CommandContent TextFault → List ℕ → Type 0
ReadText form r text = Gives (λ x. x) r (command_at form (ahead_of_text text))

pub found_in : (form : Form) → (r : Result CommandContent TextFault) (text : List ℕ) → ReadText form r text → length text ≤ most_bytes form → IfOk r (λ c. StandsFor form text c)
found_in form (Ok c) text g le = let f = command_found form (ahead_of_text text) c g in (le, inr f)
found_in form (Err e) text g le = tt

pub only_in : (form : Form) → (r : Result CommandContent TextFault) (text : List ℕ) (c : CommandContent) → ReadText form r text → (is_blank text ≡ true → ⊥) → StandsFor form text c → OrNoMemory r (Ok c)
only_in form r text c g not_blank (le, inl (is, blank)) = absurd (not_blank blank)
only_in form r text c g not_blank (le, inr (f, restricted)) = as_given r c (subst (λ (s : Result CommandContent TextFault). Gives (λ x. x) r s) (command_only form (ahead_of_text text) c f restricted) g)

pub fault_in : (form : Form) → (r : Result CommandContent TextFault) (text : List ℕ) → ReadText form r text → (is_blank text ≡ true → ⊥) → length text ≤ most_bytes form → IfFault r (λ kind offset. FirstFault form text kind offset)
fault_in form (Ok c) text g not_blank le = tt
fault_in form (Err NoMemory) text g not_blank le = tt
fault_in form (Err (At kind offset)) text g not_blank le = (λ short blank. not_blank blank, inr (le, command_fault form (ahead_of_text text) kind offset g))

pub only_fault_in : (form : Form) → (r : Result CommandContent TextFault) (text : List ℕ) (kind : Kind) (offset : ℕ) → ReadText form r text → length text ≤ most_bytes form → FirstFault form text kind offset → OrNoMemory r (fault kind offset)
only_fault_in form r text kind offset g le (b, inl (long, k, o)) = let never : ⊥ = omega arith in absurd never
only_fault_in form r text kind offset g le (b, inr (short, h)) = as_fault r kind offset (subst (λ (s : Result CommandContent TextFault). Gives (λ x. x) r s) (command_only_fault form (ahead_of_text text) kind offset h) g)

abbrev ReadQuery : (form : Form) → Result QueryRecord TextFault → List ℕ → Type 0
ReadQuery form r text = Gives (λ x. x) r (query_at form (ahead_of_text text))

pub query_found_in : (form : Form) → (r : Result QueryRecord TextFault) (text : List ℕ) → ReadQuery form r text → length text ≤ most_bytes form → IfOk r (λ query. StandsForQuery form text query)
query_found_in form (Ok query) text g le = let f = query_found form (ahead_of_text text) query g in (le, f.0, f.1)
query_found_in form (Err e) text g le = tt

pub query_only_in : (form : Form) → (r : Result QueryRecord TextFault) (text : List ℕ) (query : QueryRecord) → ReadQuery form r text → StandsForQuery form text query → OrNoMemory r (Ok query)
query_only_in form r text query g (le, f, restricted) = as_given r query (subst (λ (s : Result QueryRecord TextFault). Gives (λ x. x) r s) (query_only form (ahead_of_text text) query f restricted) g)

pub query_fault_in : (form : Form) → (r : Result QueryRecord TextFault) (text : List ℕ) → ReadQuery form r text → length text ≤ most_bytes form → IfFault r (λ kind offset. FirstQueryFault form text kind offset)
query_fault_in form (Ok query) text g le = tt
query_fault_in form (Err NoMemory) text g le = tt
query_fault_in form (Err (At kind offset)) text g le = inr (le, query_fault form (ahead_of_text text) kind offset g)

pub query_only_fault_in : (form : Form) → (r : Result QueryRecord TextFault) (text : List ℕ) (kind : Kind) (offset : ℕ) → ReadQuery form r text → length text ≤ most_bytes form → FirstQueryFault form text kind offset → OrNoMemory r (fault kind offset)
query_only_fault_in form r text kind offset g le (inl (long, k, o)) = let never : ⊥ = omega arith in absurd never
query_only_fault_in form r text kind offset g le (inr (short, h)) = as_fault r kind offset (subst (λ (s : Result QueryRecord TextFault). Gives (λ x. x) r s) (query_only_fault form (ahead_of_text text) kind offset h) g)

abbrev ReadRow : (form : Form) → Result RowRecord TextFault → List ℕ → Type 0
ReadRow form r text = Gives (λ x. x) r (row_at form (ahead_of_text text))

pub row_found_in : (form : Form) → (r : Result RowRecord TextFault) (text : List ℕ) → ReadRow form r text → length text ≤ most_bytes form → IfOk r (λ row. StandsForRow form text row)
row_found_in form (Ok row) text g le = (le, row_ok form (ahead_of_text text) row g)
row_found_in form (Err e) text g le = tt

pub row_only_in : (form : Form) → (r : Result RowRecord TextFault) (text : List ℕ) (row : RowRecord) → ReadRow form r text → StandsForRow form text row → OrNoMemory r (Ok row)
row_only_in form r text row g (le, f) = as_given r row (subst (λ (s : Result RowRecord TextFault). Gives (λ x. x) r s) (row_only form (ahead_of_text text) row f) g)

pub row_fault_in : (form : Form) → (r : Result RowRecord TextFault) (text : List ℕ) → ReadRow form r text → length text ≤ most_bytes form → IfFault r (λ kind offset. FirstRowFault form text kind offset)
row_fault_in form (Ok row) text g le = tt
row_fault_in form (Err NoMemory) text g le = tt
row_fault_in form (Err (At kind offset)) text g le = inr (le, row_fault form (ahead_of_text text) kind offset g)

pub row_only_fault_in : (form : Form) → (r : Result RowRecord TextFault) (text : List ℕ) (kind : Kind) (offset : ℕ) → ReadRow form r text → length text ≤ most_bytes form → FirstRowFault form text kind offset → OrNoMemory r (fault kind offset)
row_only_fault_in form r text kind offset g le (inl (long, k, o)) = let never : ⊥ = omega arith in absurd never
row_only_fault_in form r text kind offset g le (inr (short, h)) = as_fault r kind offset (subst (λ (s : Result RowRecord TextFault). Gives (λ x. x) r s) (row_only_fault form (ahead_of_text text) kind offset h) g)

-- a text that is not too long
pub short_enough : (form : Form) (text : List ℕ) (b : Bool) → (b ≡ true) ↔ (most_bytes form < length text) → b ≡ false → length text ≤ most_bytes form
short_enough form text b e f = elim (cases_lt (most_bytes form) (length text)) [ inl long ↦ absurd (false_true (sym f ∙ e.1 long)) | inr short ↦ short ]
  where
    false_true : false ≡ true → ⊥
    false_true k = cc

pub is_not_blank : (b : Bool) (text : List ℕ) → b ≡ is_blank text → b ≡ false → is_blank text ≡ true → ⊥
is_not_blank b text e f h = false_true (sym f ∙ e ∙ h)
  where
    false_true : false ≡ true → ⊥
    false_true k = cc

pub blank_read : (form : Form) → (text : List ℕ) (c : CommandContent) → is_blank text ≡ true → StandsFor form text c → OrNoMemory {X = CommandContent} (Ok Blank) (Ok c)
blank_read form text c e s = inl (ap (λ (d : CommandContent). Ok d) (sym (blank_alone form text c e s)))
