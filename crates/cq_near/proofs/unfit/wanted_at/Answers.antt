use Rattle.std.proofs.Common.{◌≡◌, ◌∙◌, List, ℕ, ap}
use Rattle.std.specs.Prelude.{Some}
use Rattle.std.proofs.lemmas.Option.{same_Some}
use Rattle.cq_atom.specs.declared.term.TermKind.TheVariants.{Constant, Variable}
use Rattle.cq_atom.specs.Value.{ValueContent}
use Rattle.cq_atom.specs.Atom.{TermContent, variable_of}
use Rattle.cq_near.specs.Unfit.{first_value, wanted_at}
use Rattle.cq_near.proofs.unfit.wanted_at.Goals as goal

-- where a variable stands, its first value is wanted
of_variable : (terms : List TermContent) (values : List ValueContent) (term : TermContent) (name : List ℕ) → Some name ≡ variable_of term → first_value terms values name ≡ wanted_at terms values term
of_variable terms values (Constant c) name is = cc
of_variable terms values (Variable x) name is = ap (first_value terms values) (same_Some name x is)

pub returns-in-Some : goal.returns-in-Some
returns-in-Some g c =
    c.first_value.ensures ∙ of_variable c.args.terms.now c.args.values.now c.args.term.now c.in-Some.name.now c.in-Some.ensures.value
