-- What is told of lines, one after the other.
use Rattle.std.proofs.Common.{◌≡◌, ◌<◌, ◌+◌, ℕ, zero, suc, List, [], ◌∷◌, ◌++◌, Option, length, take, refl, sym, ap, subst, ◌∙◌, arith, append-nil}
use Rattle.cq_text.specs.declared.form.Form.{Form}
use Rattle.cq_rel.specs.Tables.{Declaration}
use Rattle.cq_board.specs.declared.limits.Limits.{Limits}
use Rattle.cq_report.specs.Lines.{lines_of, HasNoEnd}
use Rattle.cq_report.specs.Reading.{Reading, IsReading}
use Rattle.cq_report.specs.declared.refusal.Refusal.{Refusal}
use Rattle.cq_report.specs.Reply.{refusal}
use Rattle.cq_report.specs.Machine.{State, form_in, next, staged}
use Rattle.cq_report.proofs.CallerLemmas.{lines_of_ended, lines_of_open}
use Rattle.cq_why.specs.Why.{IsWhy, AreWhys}

module _ (origin : List ℕ) (limits : Limits) (catalog : List Declaration) where
  -- what is told of a line that is heard in this state
  abbrev pub IsToldAt : State → List ℕ → Reading → List ℕ → Type 0
  IsToldAt state line reading piece = IsWhy origin (state.lines + 1) limits catalog (form_in state) line (refusal (staged state.stage state.heading reading).1) reading piece

  -- a line that was heard, and what is told of it
  pub told_at : (state after : State) (number : ℕ) (form : Form) (line : List ℕ) (refused : Option Refusal) (before page : List ℕ) → form ≡ form_in state
      → ((reading : Reading) → IsReading (form_in state) line reading → (after ≡ next state reading) × (refused ≡ refusal (staged state.stage state.heading reading).1))
      → (reading : Reading) × IsReading form line reading × (piece : List ℕ) × IsWhy origin number limits catalog form line refused reading piece × (page ≡ before ++ piece)
      → (reading : Reading) × IsReading (form_in state) line reading × (after ≡ next state reading)
      × (piece : List ℕ) × IsWhy origin number limits catalog (form_in state) line (refusal (staged state.stage state.heading reading).1) reading piece × (page ≡ before ++ piece)
  told_at state after number form line refused before page same heard told =
      let reading = told.0 in
      let is : IsReading (form_in state) line reading = subst (λ (f : Form). IsReading f line reading) same told.1 in
      let why : IsWhy origin number limits catalog (form_in state) line refused reading told.2 = subst (λ (f : Form). IsWhy origin number limits catalog f line refused reading told.2) same told.3 in
      (reading, is, (heard reading is).0, told.2, subst (λ (r : Option Refusal). IsWhy origin number limits catalog (form_in state) line r reading told.2) (heard reading is).1 why, told.4)

  -- one more line
  pub told_more : (state after : State) (line rest behind : List ℕ) (n k : ℕ) (reading : Reading) (piece text : List ℕ) → rest ≡ line ++ (10 ∷ behind) → HasNoEnd line → suc k ≡ n
      → IsReading (form_in state) line reading → after ≡ next state reading → IsToldAt state line reading piece → AreWhys origin limits catalog after (take k (lines_of behind)) text
      → AreWhys origin limits catalog state (take n (lines_of rest)) (piece ++ text)
  told_more state after line rest behind n k reading piece text cut no_end many is following why told =
      let lines : lines_of rest ≡ line ∷ lines_of behind = ap lines_of cut ∙ lines_of_ended line behind no_end in
      let first : AreWhys origin limits catalog state (line ∷ take k (lines_of behind)) (piece ++ text) =
      (reading, is, piece, why, text, subst (λ (s : State). AreWhys origin limits catalog s (take k (lines_of behind)) text) following told, refl) in
      subst (λ (m : ℕ). AreWhys origin limits catalog state (take m (lines_of rest)) (piece ++ text)) many
      (subst (λ (ls : List (List ℕ)). AreWhys origin limits catalog state (take (suc k) ls) (piece ++ text)) (sym lines) first)

  -- a line that no LF ends
  pub told_last : (state : State) (line : List ℕ) (reading : Reading) (piece : List ℕ) → HasNoEnd line → (0 < length line)
      → IsReading (form_in state) line reading → IsToldAt state line reading piece → AreWhys origin limits catalog state (lines_of line) piece
  told_last state line reading piece no_end some is why =
      subst (λ (ls : List (List ℕ)). AreWhys origin limits catalog state ls piece) (sym (lines_of_open line no_end some)) (reading, is, piece, why, [], refl, sym (append-nil piece))

-- one line or none is not cut short
pub one_taken : (line : List ℕ) (n k : ℕ) → HasNoEnd line → suc k ≡ n → take n (lines_of line) ≡ lines_of line
one_taken [] n k no_end many = subst (λ (m : ℕ). take m (lines_of []) ≡ lines_of []) many refl
one_taken (b ∷ line) n k no_end many =
    let is = lines_of_open (b ∷ line) no_end (omega arith) in
    subst (λ (m : ℕ). take m (lines_of (b ∷ line)) ≡ lines_of (b ∷ line)) many (rw is (none_more k (b ∷ line)))
  where
    none_more : (k : ℕ) (x : List ℕ) → take (suc k) (x ∷ []) ≡ x ∷ []
    none_more zero x = refl
    none_more (suc k) x = refl
