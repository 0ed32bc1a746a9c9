-- Two terms are one variable where the names that they show are one.
use Rattle.std.proofs.Common.{◌≡◌, ◌∙◌, ℕ, Bool, true, List, Some, ap, sym, bytes_eq}
use Rattle.std.proofs.lemmas.Slice.Eq.{bytes_eq-Decides}
use Rattle.cq_atom.specs.declared.term.TermKind.TheVariants.{Variable}
use Rattle.cq_atom.specs.Atom.{TermContent, variable_of}
use Rattle.cq_atom.specs.Steps.Labels.{SameVariable}
use Rattle.cq_atom.proofs.Shows.{variable_is}

inner : (x y : List ℕ) → Some x ≡ Some y → x ≡ y
inner x y e = cc

pub same-variable : (s t : TermContent) (r : Bool) (x y : List ℕ) → Some x ≡ variable_of s → Some y ≡ variable_of t → r ≡ bytes_eq x y → (r ≡ true → SameVariable s t) × (SameVariable s t → r ≡ true)
same-variable s t r x y p q e = (
  λ told. let same : x ≡ y = (bytes_eq-Decides x y).0 (sym e ∙ told) in record { name = x; first = variable_is s x p; second = variable_is t y q ∙ ap Variable (sym same) },
  λ m. e ∙ (bytes_eq-Decides x y).1 (inner x m.name (p ∙ ap variable_of m.first) ∙ sym (inner y m.name (q ∙ ap variable_of m.second))),
)
