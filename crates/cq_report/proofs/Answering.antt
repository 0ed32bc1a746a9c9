-- What a line is read as, and what is known of its reply.
use Rattle.std.proofs.Common.{◌≡◌, ℕ, List, inl, inr, ap}
use Rattle.std.specs.Prelude.{Result, Ok, Err, OnOk, OnErr, IfErr}
use Rattle.cq_text.specs.declared.fault.Kind.{Kind}
use Rattle.cq_text.specs.declared.fault.TextFault.{TextFault}
use Rattle.cq_text.specs.declared.fault.TextFault.TheVariants.{At}
use Rattle.cq_text.specs.declared.form.Form.{Form}
use Rattle.cq_text.specs.Grammar.{CommandContent, StandsFor}
use Rattle.cq_text.specs.Fault.{FirstFault}
use Rattle.cq_text.specs.Views.{OrNoMemory, OfFault}
use Rattle.cq_report.specs.Reading.{Reading, Reads, Faulty, IsReading}

pub on_err : {X E : Type 0} (r : Result X E) (P : Type 0) → P → OnErr r P
on_err (Ok x) P p = tt
on_err (Err e) P p = p

-- what is known of how it went
pub on_ok_as : {X E : Type 0} (r : Result X E) (P Q : Type 0) → (P → Q) → OnOk r P → OnOk r Q
on_ok_as (Ok x) P Q f p = f p
on_ok_as (Err e) P Q f p = tt

pub if_err_as : {X E : Type 0} (r : Result X E) (P Q : E → Type 0) → ((e : E) → P e → Q e) → IfErr r P → IfErr r Q
if_err_as (Ok x) P Q f p = tt
if_err_as (Err e) P Q f p = f e p

pub both_on : {X E : Type 0} (r : Result X E) (P Q R : Type 0) → (P → Q → R) → OnOk r P → OnOk r Q → OnOk r R
both_on (Ok x) P Q R f p q = f p q
both_on (Err e) P Q R f p q = tt

-- a line that is read as a command is read as nothing else
pub only_command : (form : Form) (line : List ℕ) (command : CommandContent)
    → ((other : CommandContent) → StandsFor form line other → OrNoMemory {X = CommandContent} (Ok command) (Ok other))
    → ((kind : Kind) (offset : ℕ) → FirstFault form line kind offset → OrNoMemory {X = CommandContent} (Ok command) (Err (At kind offset)))
    → (reading : Reading) → IsReading form line reading → reading ≡ Reads command
only_command form line command only only_fault (Reads other) h =
    elim (only other h) [ inl e ↦ let same : other ≡ command = cc in ap Reads same | inr e ↦ cc ]
only_command form line command only only_fault (Faulty kind offset) h =
    elim (only_fault kind offset h) [ inl e ↦ cc | inr e ↦ cc ]

pub the_fault : (form : Form) (line : List ℕ) (fault : TextFault) (kind : Kind) (offset : ℕ) → fault ≡ At kind offset → OfFault fault (λ k o. FirstFault form line k o) → IsReading form line (Faulty kind offset)
the_fault form line fault kind offset is h = rw is at h
