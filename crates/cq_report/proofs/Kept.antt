-- What is kept of a line is read as the line is.
use Rattle.std.proofs.Common.{◌≡◌, ℕ, ◌<◌, ◌≤◌, false, List, length, take, refl, sym, ap, subst, ◌⊎◌, inl, inr, arith}
use Rattle.std.specs.Prelude.{nat_le}
use Rattle.std.proofs.lemmas.Bool.{cases_lt}
use Rattle.std.proofs.lemmas.List.{take_all, length-take}
use Rattle.cq_text.specs.declared.form.Form.{Form}
use Rattle.cq_text.specs.declared.form.Form.TheVariants.{One, Two}
use Rattle.cq_text.specs.Forms.{most_bytes}
use Rattle.cq_text.specs.Limits.{max_bytes}
use Rattle.cq_ask.specs.Ask.{asked}
use Rattle.cq_report.specs.declared.line_buffer.TheConstants.{KEPT}
use Rattle.cq_report.specs.Reading.{Reading, Reads, Faulty, IsReading}
use Rattle.cq_report.specs.Steps.Kept.{kept}

never_both : (m n : ℕ) → m < n → n ≤ m → ⊥
never_both m n h k = omega (arith, h, k)

-- more is kept of a line than any form allows
below_kept : (form : Form) → most_bytes form < KEPT
below_kept One = omega arith
below_kept Two = omega arith

-- a text that is too long has one fault, whatever it is
too_long : (form : Form) (a b : List ℕ) (reading : Reading) → most_bytes form < length a → most_bytes form < length b → IsReading form a reading → IsReading form b reading
too_long form a b (Reads command) h k i = absurd (never_both (most_bytes form) (length a) h i.0)
too_long form a b (Faulty kind offset) h k (i, inl j) = ((λ le _. absurd (never_both (most_bytes form) (length b) k le)), inl (k, j.1, j.2))
too_long form a b (Faulty kind offset) h k (i, inr j) = absurd (never_both (most_bytes form) (length a) h j.0)

kept_whole : (form : Form) (line : List ℕ) → length line ≤ most_bytes form → kept line ≡ line
unfolding kept
kept_whole form line h = let b = below_kept form in take_all KEPT line (omega (arith, h, b))

kept_long : (form : Form) (line : List ℕ) → most_bytes form < length line → most_bytes form < length (kept line)
unfolding kept
kept_long form line h = let b = below_kept form in omega (arith, length-take KEPT line, h, b)

IsReading-kept_by : (form : Form) (line : List ℕ) (reading : Reading) → (most_bytes form < length line) ⊎ (length line ≤ most_bytes form) → IsReading form line reading → IsReading form (kept line) reading
IsReading-kept_by form line reading (inl h) i = too_long form line (kept line) reading h (kept_long form line h) i
IsReading-kept_by form line reading (inr h) i = subst (λ (l : List ℕ). IsReading form l reading) (sym (kept_whole form line h)) i

pub IsReading-kept : (form : Form) (line : List ℕ) (reading : Reading) → IsReading form line reading → IsReading form (kept line) reading
IsReading-kept form line reading i = IsReading-kept_by form line reading (cases_lt (most_bytes form) (length line)) i

IsReading-whole_by : (form : Form) (line : List ℕ) (reading : Reading) → (most_bytes form < length line) ⊎ (length line ≤ most_bytes form) → IsReading form (kept line) reading → IsReading form line reading
IsReading-whole_by form line reading (inl h) i = too_long form (kept line) line reading (kept_long form line h) h i
IsReading-whole_by form line reading (inr h) i = subst (λ (l : List ℕ). IsReading form l reading) (kept_whole form line h) i

pub IsReading-whole : (form : Form) (line : List ℕ) (reading : Reading) → IsReading form (kept line) reading → IsReading form line reading
IsReading-whole form line reading i = IsReading-whole_by form line reading (cases_lt (most_bytes form) (length line)) i

too_many : (m n : ℕ) → n < m → nat_le m n ≡ false
too_many m n h = grind arith

asked_kept_by : (line : List ℕ) → (max_bytes < length line) ⊎ (length line ≤ max_bytes) → asked (kept line) ≡ asked line
unfolding kept
asked_kept_by line (inl h) =
    let long : max_bytes < length (take KEPT line) = omega (arith, length-take KEPT line, h) in
    rw (too_many (length line) max_bytes h, too_many (length (take KEPT line)) max_bytes long) refl
asked_kept_by line (inr h) = ap asked (take_all KEPT line (omega (arith, h)))

-- what is kept of a line asks what the line asks
pub asked_kept : (line : List ℕ) → asked (kept line) ≡ asked line
asked_kept line = asked_kept_by line (cases_lt max_bytes (length line))
