use Rattle.std.proofs.Common.{◌≡◌, ◌++◌, ◌∙◌, List, ℕ, true, sym, ap, subst}
use Rattle.std.specs.Prelude.{codes}
use Rattle.cq_atom.specs.Text.{is_name}
use Rattle.cq_atom.specs.Value.{ValueContent}
use Rattle.cq_ask.specs.Choices.{ListsValues}
use Rattle.cq_ask.proofs.Names.{some_name}
use Rattle.cq_ask.proofs.choices.choice_of.Goals as goal

pub returns-in-None : goal.returns-in-None
returns-in-None g c choice stands =
    let parts = c.in-Some.ensures.only choice.name stands.0 stands.1 stands.3 in
    let none : (values : List ValueContent) → ListsValues c.in-Some.inner.now values → ⊥ = rw c.in-None.is at c.in_ok-values.ensures in
    none choice.values (subst (λ (text : List ℕ). ListsValues text choice.values) (sym parts.1) stands.2)

pub returns-in-Some-3 : goal.returns-in-Some-3
returns-in-Some-3 g c =
    let text = c.in-Some.name.now in
    let inner = c.in-Some.inner.now in
    let named = c.in-Some-2.named in
    let is = some_name (is_name text) text named (sym c.in-Some-2.is ∙ c.in_ok-named.ensures) in
    let lists : ListsValues inner c.in-Some-3.values.items = rw c.in-Some-3.is at c.in_ok-values.ensures in (
      inner,
      subst (λ (name : List ℕ). is_name name ≡ true) (sym is.1) is.0,
      lists,
      c.in-Some.ensures.found ∙ ap (λ (front : List ℕ). front ++ codes "(" ++ inner ++ codes ")") (sym is.1),
    )
