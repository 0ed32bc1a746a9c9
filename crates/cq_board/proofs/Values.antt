-- The value of a term under a valuation, and where two terms are one under two valuations.
use Rattle.std.proofs.Common.{◌≡◌, ◌↔◌, ℕ, List, length, Option, Some, None, refl, sym, ap, ◌∙◌}
use Rattle.std.specs.Borrow.{Bor}
use Rattle.std.specs.List.{slice_get}
use Rattle.std.specs.Option.{option_copied}
use Rattle.std.specs.Slice.{IsItemAt}
use Rattle.std.proofs.lemmas.Option.{slice_get_past, slice_get_read}
use Rattle.cq_atom.specs.declared.term.TermKind.TheVariants.{Constant, Variable}
use Rattle.cq_atom.specs.Value.{ValueContent}
use Rattle.cq_atom.specs.Atom.{TermContent, constant_of, variable_of}
use Rattle.cq_atom.specs.Valuation.{Bindings, value_at, constant_or, term_under}
use Rattle.cq_board.specs.Steps.Choices.{SameVariable}

-- what is read at a place, if anything
pub got : {X : Type 0} (xs : List X) (i : ℕ) (r : Option (Bor X)) → IsItemAt xs i r → option_copied r ≡ slice_get xs i
got xs i None h = sym (slice_get_past xs i h.3)
got xs i (Some b) h = sym (slice_get_read xs (length xs) i b.now refl h.3.0 h.1)

-- ---- one term

constant-or : (o : Option ValueContent) (x : List ℕ) → o ≡ constant_of (constant_or o x)
constant-or None x = refl
constant-or (Some c) x = refl

pub value-of-variable : (v : Bindings) (t : TermContent) (x : List ℕ) → Some x ≡ variable_of t → value_at v x ≡ constant_of (term_under v t)
value-of-variable v (Constant c) x e = absurd cc
value-of-variable v (Variable y) x e = let same : x ≡ y = cc in ap (value_at v) same ∙ constant-or (value_at v y) y

pub value-of-constant : (v : Bindings) (t : TermContent) → None ≡ variable_of t → constant_of t ≡ constant_of (term_under v t)
value-of-constant v (Constant c) e = refl
value-of-constant v (Variable y) e = absurd cc

-- ---- two terms

pub same-variable : (s t : TermContent) (x y : List ℕ) → Some x ≡ variable_of s → Some y ≡ variable_of t → (x ≡ y) ↔ SameVariable s t
same-variable (Constant c) t x y e f = absurd cc
same-variable (Variable u) (Constant d) x y e f = absurd cc
same-variable (Variable u) (Variable w) x y e f = let first : x ≡ u = cc in let second : y ≡ w = cc in (λ h. sym first ∙ h ∙ second, λ h. first ∙ h ∙ sym second)

pub variable-apart : (s t : TermContent) → None ≡ variable_of t → SameVariable s t → ⊥
variable-apart (Constant c) t e h = h
variable-apart (Variable x) (Constant d) e h = h
variable-apart (Variable x) (Variable y) e h = cc

pub variable-missing : (s t : TermContent) → None ≡ variable_of s → SameVariable s t → ⊥
variable-missing (Constant c) t e h = h
variable-missing (Variable x) t e h = cc

-- terms that have values are one where the values are
pub same-values : (a b : TermContent) (c d : ValueContent) → Some c ≡ constant_of a → Some d ≡ constant_of b → (c ≡ d) ↔ (a ≡ b)
same-values (Constant x) (Constant y) c d e f = let first : c ≡ x = cc in let second : d ≡ y = cc in (λ h. ap Constant (sym first ∙ h ∙ second), λ h. let same : x ≡ y = cc in first ∙ same ∙ sym second)
same-values (Constant x) (Variable y) c d e f = absurd cc
same-values (Variable x) t c d e f = absurd cc

open-terms : (o p : Option ValueContent) (x y : List ℕ) → None ≡ constant_of (constant_or o x) → None ≡ constant_of (constant_or p y) → (x ≡ y) ↔ (constant_or o x ≡ constant_or p y)
open-terms None None x y e f = (λ h. ap Variable h, λ h. cc)
open-terms None (Some d) x y e f = absurd cc
open-terms (Some c) p x y e f = absurd cc

-- terms that have none are one where they are one variable
pub same-open : (v w : Bindings) (s t : TermContent) → None ≡ constant_of (term_under v s) → None ≡ constant_of (term_under w t) → SameVariable s t ↔ (term_under v s ≡ term_under w t)
same-open v w (Constant c) t e f = absurd cc
same-open v w (Variable x) (Constant d) e f = absurd cc
same-open v w (Variable x) (Variable y) e f = open-terms (value_at v x) (value_at w y) x y e f

-- a term with a value is none without
pub value-apart : (a b : TermContent) (c : ValueContent) → Some c ≡ constant_of a → None ≡ constant_of b → a ≡ b → ⊥
value-apart a b c e f h = let never : Some c ≡ None = e ∙ ap constant_of h ∙ sym f in cc
