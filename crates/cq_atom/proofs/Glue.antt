-- What the answers of the code's tests mean.
use Rattle.std.proofs.Common.{◌≡◌, ℕ, ◌<◌, true, false, List, length, Some, None, get_or}
use Rattle.std.proofs.lemmas.List.{get_or_read}
use Rattle.cq_atom.specs.Value.{ValueContent}
use Rattle.cq_atom.specs.Atom.{TermContent}
use Rattle.cq_atom.specs.Atom.{constant_of}
use Rattle.cq_atom.specs.declared.term.TermKind.TheVariants.{Constant, Variable}
use Rattle.cq_atom.specs.Steps.Labels.{term_at, zero_value}

pub constant_is : (t : TermContent) (c : ValueContent) → Some c ≡ constant_of t → t ≡ Constant c
constant_is (Constant d) c e = cc
constant_is (Variable x) c e = cc

pub no_constant : (t : TermContent) (c : ValueContent) → None ≡ constant_of t → t ≡ Constant c → ⊥
no_constant (Constant d) c e h = cc
no_constant (Variable x) c e h = cc

-- an element that was read
pub term_read : (xs : List TermContent) (i : ℕ) (t : TermContent) → i < length xs → t ≡ get_or xs i t → t ≡ term_at xs i
term_read xs i t h e = get_or_read xs i t h e (Constant zero_value)

-- the one constant is not the other, so they do not agree
pub false_case : (Q : Type 0) → (Q → ⊥) → (false ≡ true → Q) × (Q → false ≡ true)
false_case Q no_q = (λ e. absurd (Rattle_false e), λ q. absurd (no_q q))
  where
    Rattle_false : false ≡ true → ⊥
    Rattle_false e = cc
