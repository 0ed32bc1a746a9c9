-- What a reader's answer says.
use Rattle.std.specs.Prelude.{◌≡◌, ℕ, Result, Ok, Err, ◌⊎◌}
use Rattle.cq_text.specs.declared.fault.Kind.{Kind}
use Rattle.cq_text.specs.declared.fault.TextFault.{TextFault}
use Rattle.cq_text.specs.declared.fault.TextFault.TheVariants.{At, NoMemory}

-- The answer is the one named, or that memory ran out.
abbrev pub OrNoMemory : {X : Type 0} → Result X TextFault → Result X TextFault → Type 0
OrNoMemory r s = (r ≡ s) ⊎ (r ≡ Err NoMemory)

-- What is known of a fault that has a place.
abbrev pub OfFault : TextFault → (Kind → ℕ → Type 0) → Type 0
OfFault NoMemory P = Unit {0}
OfFault (At kind offset) P = P kind offset

-- What is known of the fault, where the answer is one that has a place.
abbrev pub IfFault : {X : Type 0} → Result X TextFault → (Kind → ℕ → Type 0) → Type 0
IfFault (Ok x) P = Unit {0}
IfFault (Err e) P = OfFault e P
