-- A text stands for one thing, or has one first fault.
use Rattle.std.proofs.Common.{◌≡◌, ℕ, ◌<◌, ◌≤◌, Bool, true, false, cond, List, [], ◌∷◌, length, Option, Some, None, Result, Ok, Err, refl, sym, ap, ◌∙◌, arith, inl, inr}
use Rattle.std.specs.Prelude.{IfOk}
use Rattle.std.proofs.lemmas.Bool.{cases_lt}
use Rattle.cq_atom.specs.Atom.{RowRecord}
use Rattle.cq_atom.specs.Query.{QueryRecord}
use Rattle.cq_text.specs.declared.fault.Kind.{Kind}
use Rattle.cq_text.specs.declared.fault.Kind.TheVariants as kinds
use Rattle.cq_text.specs.declared.fault.Kind.TheVariants.{Shape}
use Rattle.cq_text.specs.declared.fault.TextFault.{TextFault}
use Rattle.cq_text.specs.declared.fault.TextFault.TheVariants.{At, NoMemory}
use Rattle.cq_text.specs.declared.command.CommandKind.TheVariants.{Blank, Edit}
use Rattle.cq_atom.specs.declared.edit.EditKind.TheVariants.{Post}
use Rattle.cq_text.specs.Token.{LexemeContent, flaw}
use Rattle.cq_text.specs.Lexing.{is_blank}
use Rattle.cq_text.specs.Grammar.{CommandContent, StandsFor, StandsForQuery, StandsForRow}
use Rattle.cq_text.specs.Fault.{Place, opening, is_over, behind_token, FirstFault, FirstQueryFault, FirstRowFault, HasOneReading}
use Rattle.cq_text.specs.Views.{OrNoMemory, IfFault}
use Rattle.cq_text.specs.Steps.Lexemes.{Ahead, Gives, fault, ◌>>=◌, ahead_of_text}
use Rattle.cq_text.specs.Steps.Lists.{query_at, row_at}
use Rattle.cq_text.specs.Steps.Commands.{command_at}
use Rattle.cq_text.proofs.Machine.{is_nullable, Symbol, command, row_symbols, query_symbols, take_token}
use Rattle.cq_text.proofs.Scan.{on_token, at_end, after_flaw, scan}
use Rattle.cq_text.proofs.Runs.{QueryParts, parts_at, query_by_parts, run_query, Parts, posted, whole, command_of_parts, command_parts, command_by_parts, run_command, run_row}
use Rattle.cq_text.proofs.Taken.{command_parts_ok}
use Rattle.cq_text.proofs.Laws.{query_verdict, good_command, post_verdict, blank_alone, found_in, only_in, fault_in, only_fault_in, query_found_in, query_only_in, query_fault_in, query_only_fault_in, row_found_in, row_only_in, row_fault_in, row_only_fault_in}
use Rattle.cq_text.specs.declared.form.Form.{Form}
use Rattle.cq_text.specs.Forms.{most_bytes}

abbrev Starved : {A : Type 0} → Result A TextFault → Type 0
Starved r = r ≡ Err NoMemory

-- ---- reading lists takes no memory

not_starved_fault : {A : Type 0} (kind : Kind) (offset : ℕ) → Starved {A = A} (fault kind offset) → ⊥
not_starved_fault kind offset e = cc

not_starved_ok : {A : Type 0} (x : A) → Starved (Ok x) → ⊥
not_starved_ok x e = cc

scan_told : (form : Form) → (ss : List Symbol) (p : Place) (ls : List LexemeContent) (end : ℕ) → Starved (scan form ss p ls end) → ⊥
unfolding scan
scan_told form ss p [] end e = ends ss e
  where
    ends : (ss : List Symbol) → Starved (at_end ss end) → ⊥
    ends [] h = cc
    ends (x ∷ ss) h = by_case (is_nullable x) (ends ss) h
      where
        by_case : (b : Bool) → (Starved (at_end ss end) → ⊥) → Starved (cond b (at_end ss end) (fault Shape end)) → ⊥
        by_case true more k = more k
        by_case false more k = cc
scan_told form ss p (l ∷ ls) end e = step (flaw l.token) (take_token ss l.token) (is_over form p l.token) (λ rs h. scan_told form rs (behind_token form p l.token) ls end h) e
  where
    step : (f : Option Kind) (o : Option (List Symbol)) (over : Bool) → ((rs : List Symbol) → Starved (scan form rs (behind_token form p l.token) ls end) → ⊥)
        → Starved (after_flaw f l.at (on_token o over l.at (λ rs. scan form rs (behind_token form p l.token) ls end))) → ⊥
    step (Some kind) o over more h = cc
    step None None over more h = cc
    step None (Some rs) true more h = cc
    step None (Some rs) false more h = more rs h

starved_check : {A : Type 0} (r : Result A TextFault) → Starved r → Starved {A = Unit {0}} (r >>= λ x. Ok tt)
starved_check {A} r e = ap (λ (s : Result A TextFault). s >>= λ x. Ok tt) e

told_bind : {A B : Type 0} (r : Result B TextFault) (f : B → Result A TextFault) → (Starved r → ⊥) → ((x : B) → r ≡ Ok x → Starved (f x) → ⊥) → Starved (r >>= f) → ⊥
told_bind (Ok x) f none more e = more x refl e
told_bind (Err NoMemory) f none more e = none refl
told_bind (Err (At kind offset)) f none more e = cc

row_told : (form : Form) → (a : Ahead) → Starved (row_at form a) → ⊥
row_told form a e = scan_told form row_symbols opening a.lexemes a.end (run_row form a ∙ starved_check (row_at form a) e)

parts_told : (form : Form) → (a : Ahead) → Starved (parts_at form a) → ⊥
parts_told form a e = scan_told form query_symbols opening a.lexemes a.end (run_query form opening a ∙ starved_check (parts_at form a) e)

query_told : (form : Form) → (a : Ahead) → Starved (query_at form a) → ⊥
query_told form a e =
    told_bind (parts_at form a) _ (parts_told form a) (λ q d h. elim (query_verdict form a q d) [ inl b ↦ not_starved_ok _ (sym b.read ∙ h) | inr s ↦ not_starved_fault kinds.Unbound s.offset (sym s.read ∙ h) ])
    (sym (query_by_parts form a) ∙ e)

command_parts_told : (form : Form) → (a : Ahead) → Starved (command_parts form a) → ⊥
command_parts_told form a e = scan_told form (command ∷ []) opening a.lexemes a.end (run_command form a ∙ starved_check (command_parts form a) e)

posted_told : (form : Form) → (a : Ahead) (w : List ℕ) (q : QueryParts) → command_parts form a ≡ Ok (posted w q) → Starved (command_of_parts (posted w q)) → ⊥
posted_told form a w q d h = elim (post_verdict form a.lexemes w q (command_parts_ok form a (posted w q) d) (good_command form a (posted w q) d)) [
  | inl b ↦ not_starved_ok _ (sym (ap (λ (s : Result QueryRecord TextFault). s >>= λ query. Ok (Edit (Post w query))) b.read) ∙ h)
  | inr s ↦ not_starved_fault kinds.Unbound s.offset (sym (ap (λ (s : Result QueryRecord TextFault). s >>= λ query. Ok (Edit (Post w query))) s.read) ∙ h)
]

of_parts_told : (form : Form) → (a : Ahead) (p : Parts) → command_parts form a ≡ Ok p → Starved (command_of_parts p) → ⊥
of_parts_told form a (whole c) d h = not_starved_ok c h
of_parts_told form a (posted w q) d h = posted_told form a w q d h

command_told : (form : Form) → (a : Ahead) → Starved (command_at form a) → ⊥
command_told form a e = told_bind (command_parts form a) command_of_parts (command_parts_told form a) (of_parts_told form a) (sym (command_by_parts form a) ∙ e)

-- ---- from what is known of an answer

-- the reading that a definition gives, where memory never runs out
record Reads {A : Type 0} (Stands : A → Type 0) (Faults : Kind → ℕ → Type 0) (r : Result A TextFault) : Type 0 where
  pub found : IfOk r Stands
  pub only : (x : A) → Stands x → OrNoMemory r (Ok x)
  pub fault : IfFault r Faults
  pub only_fault : (kind : Kind) (offset : ℕ) → Faults kind offset → OrNoMemory r (Err (At kind offset))
  pub told : Starved r → ⊥

one_ok : {A : Type 0} (x y : A) → OrNoMemory {X = A} (Ok x) (Ok y) → x ≡ y
one_ok x y (inl e) = cc
one_ok x y (inr e) = absurd cc

ok_no_fault : {A : Type 0} (x : A) (kind : Kind) (offset : ℕ) → OrNoMemory {X = A} (Ok x) (Err (At kind offset)) → ⊥
ok_no_fault x kind offset (inl e) = cc
ok_no_fault x kind offset (inr e) = cc

fault_no_ok : {A : Type 0} (x : A) (kind : Kind) (offset : ℕ) → OrNoMemory {X = A} (Err (At kind offset)) (Ok x) → ⊥
fault_no_ok x kind offset (inl e) = cc
fault_no_ok x kind offset (inr e) = cc

same_fault : {A : Type 0} (kind other : Kind) (offset place : ℕ) → OrNoMemory {X = A} (Err (At kind offset)) (Err (At other place)) → (kind ≡ other) × (offset ≡ place)
same_fault kind other offset place (inl e) = (cc, cc)
same_fault kind other offset place (inr e) = absurd cc

one_reading : {A : Type 0} (Stands : A → Type 0) (Faults : Kind → ℕ → Type 0) (r : Result A TextFault) → Reads Stands Faults r → HasOneReading Stands Faults
one_reading Stands Faults (Ok z) r = record {
  some = inl (z, r.found);
  one = λ x y p q. sym (one_ok z x (r.only x p)) ∙ one_ok z y (r.only y q);
  one_fault = λ kind other offset place p q. absurd (ok_no_fault z kind offset (r.only_fault kind offset p));
  not_both = λ x kind offset p q. ok_no_fault z kind offset (r.only_fault kind offset q);
}
one_reading Stands Faults (Err NoMemory) r = absurd (r.told refl)
one_reading {A} Stands Faults (Err (At k n)) r = record {
  some = inr (k, n, r.fault);
  one = λ x y p q. absurd (fault_no_ok x k n (r.only x p));
  one_fault = λ kind other offset place p q.
      let e = same_fault {A = A} k kind n offset (r.only_fault kind offset p) in
      let f = same_fault {A = A} k other n place (r.only_fault other place q) in
      (sym e.0 ∙ f.0, sym e.1 ∙ f.1);
  not_both = λ x kind offset p q. fault_no_ok x k n (r.only x p);
}

itself : {A : Type 0} (r : Result A TextFault) → Gives (λ x. x) r r
itself (Ok x) = refl
itself (Err NoMemory) = tt
itself (Err (At kind offset)) = refl

-- a text that is too long stands for nothing
too_long : (form : Form) → {A : Type 0} (Stands : A → Type 0) (Faults : Kind → ℕ → Type 0) → ((x : A) → Stands x → ⊥) → Faults kinds.Limit (most_bytes form) → ((kind : Kind) (offset : ℕ) → Faults kind offset → (kind ≡ kinds.Limit) × (offset ≡ most_bytes form)) → HasOneReading Stands Faults
too_long form Stands Faults none here only = record {
  some = inr (kinds.Limit, most_bytes form, here);
  one = λ x y p q. absurd (none x p);
  one_fault = λ kind other offset place p q. let e = only kind offset p in let f = only other place q in (e.0 ∙ sym f.0, e.1 ∙ sym f.1);
  not_both = λ x kind offset p q. none x p;
}

-- ---- texts

abbrev RowOf : (form : Form) → List ℕ → RowRecord → Type 0
RowOf form text row = StandsForRow form text row

abbrev QueryOf : (form : Form) → List ℕ → QueryRecord → Type 0
QueryOf form text query = StandsForQuery form text query

abbrev CommandOf : (form : Form) → List ℕ → CommandContent → Type 0
CommandOf form text c = StandsFor form text c

pub one_row : (form : Form) → (text : List ℕ) → HasOneReading (λ row. StandsForRow form text row) (λ kind offset. FirstRowFault form text kind offset)
one_row form text = elim (cases_lt (most_bytes form) (length text)) [
  | inl long ↦ too_long form (RowOf form text) (λ kind offset. FirstRowFault form text kind offset) (λ x s. let le = s.0 in omega arith) (inl (long, refl, refl)) (λ kind offset f. limit long kind offset f)
  | inr short ↦
      let r = row_at form (ahead_of_text text) in
      one_reading (RowOf form text) (λ kind offset. FirstRowFault form text kind offset) r (record {
        found = row_found_in form r text (itself r) short;
        only = λ row s. row_only_in form r text row (itself r) s;
        fault = row_fault_in form r text (itself r) short;
        only_fault = λ kind offset f. row_only_fault_in form r text kind offset (itself r) short f;
        told = λ e. row_told form (ahead_of_text text) e;
      })
]
  where
    limit : (most_bytes form) < length text → (kind : Kind) (offset : ℕ) → FirstRowFault form text kind offset → (kind ≡ kinds.Limit) × (offset ≡ most_bytes form)
    limit long kind offset (inl (l, k, o)) = (k, o)
    limit long kind offset (inr (le, h)) = let never : ⊥ = omega arith in absurd never

pub one_query : (form : Form) → (text : List ℕ) → HasOneReading (λ query. StandsForQuery form text query) (λ kind offset. FirstQueryFault form text kind offset)
one_query form text = elim (cases_lt (most_bytes form) (length text)) [
  | inl long ↦ too_long form (QueryOf form text) (λ kind offset. FirstQueryFault form text kind offset) (λ x s. let le = s.0 in omega arith) (inl (long, refl, refl)) (λ kind offset f. limit long kind offset f)
  | inr short ↦
      let r = query_at form (ahead_of_text text) in
      one_reading (QueryOf form text) (λ kind offset. FirstQueryFault form text kind offset) r (record {
        found = query_found_in form r text (itself r) short;
        only = λ query s. query_only_in form r text query (itself r) s;
        fault = query_fault_in form r text (itself r) short;
        only_fault = λ kind offset f. query_only_fault_in form r text kind offset (itself r) short f;
        told = λ e. query_told form (ahead_of_text text) e;
      })
]
  where
    limit : (most_bytes form) < length text → (kind : Kind) (offset : ℕ) → FirstQueryFault form text kind offset → (kind ≡ kinds.Limit) × (offset ≡ most_bytes form)
    limit long kind offset (inl (l, k, o)) = (k, o)
    limit long kind offset (inr (le, h)) = let never : ⊥ = omega arith in absurd never

-- a blank text stands for no more than that
blank_reads : (form : Form) → (text : List ℕ) → length text ≤ most_bytes form → is_blank text ≡ true → Reads (CommandOf form text) (λ kind offset. FirstFault form text kind offset) (Ok Blank)
blank_reads form text short blank = record {
  found = (short, inl (refl, blank));
  only = λ c s. inl (ap (λ (d : CommandContent). Ok d) (sym (blank_alone form text c blank s)));
  fault = tt;
  only_fault = λ kind offset f. absurd (f.0 short blank);
  told = λ e. not_starved_ok Blank e;
}

pub one_command : (form : Form) → (text : List ℕ) → HasOneReading (λ c. StandsFor form text c) (λ kind offset. FirstFault form text kind offset)
one_command form text = elim (cases_lt (most_bytes form) (length text)) [
  | inl long ↦ too_long form (CommandOf form text) (λ kind offset. FirstFault form text kind offset) (λ x s. let le = s.0 in omega arith) (λ le blank. omega arith, inl (long, refl, refl)) (λ kind offset f. limit long kind offset f)
  | inr short ↦ by_blank short (is_blank text) refl
]
  where
    limit : (most_bytes form) < length text → (kind : Kind) (offset : ℕ) → FirstFault form text kind offset → (kind ≡ kinds.Limit) × (offset ≡ most_bytes form)
    limit long kind offset (b, inl (l, k, o)) = (k, o)
    limit long kind offset (b, inr (le, h)) = let never : ⊥ = omega arith in absurd never

    false_true : (b : Bool) → b ≡ false → b ≡ true → ⊥
    false_true true e h = cc
    false_true false e h = cc

    by_blank : length text ≤ most_bytes form → (b : Bool) → is_blank text ≡ b → HasOneReading (CommandOf form text) (λ kind offset. FirstFault form text kind offset)
    by_blank short true e = one_reading (CommandOf form text) (λ kind offset. FirstFault form text kind offset) (Ok Blank) (blank_reads form text short e)
    by_blank short false e =
        let r = command_at form (ahead_of_text text) in
        let no : is_blank text ≡ true → ⊥ = λ h. false_true (is_blank text) e h in
        one_reading (CommandOf form text) (λ kind offset. FirstFault form text kind offset) r (record {
          found = found_in form r text (itself r) short;
          only = λ c s. only_in form r text c (itself r) no s;
          fault = fault_in form r text (itself r) no short;
          only_fault = λ kind offset f. only_fault_in form r text kind offset (itself r) short f;
          told = λ e. command_told form (ahead_of_text text) e;
        })
