-- What a term shows of itself.
use Rattle.std.proofs.Common.{◌≡◌, ℕ, List, Some}
use Rattle.cq_atom.specs.Atom.{TermContent}
use Rattle.cq_atom.specs.Atom.{variable_of}
use Rattle.cq_atom.specs.declared.term.TermKind.TheVariants.{Constant, Variable}

pub variable_is : (t : TermContent) (x : List ℕ) → Some x ≡ variable_of t → t ≡ Variable x
variable_is (Constant c) x e = cc
variable_is (Variable y) x e = cc
