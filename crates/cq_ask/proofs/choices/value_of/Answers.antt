use Rattle.std.proofs.Common.{[], ◌∷◌, sym, ap, ◌∙◌, length}
use Rattle.cq_atom.specs.Value.{ValueContent}
use Rattle.cq_ask.proofs.Chosen.{not_one}
use Rattle.cq_ask.proofs.choices.value_of.Goals as goal

pub returns-in-Some : goal.returns-in-Some
returns-in-Some g c = (
  c.in-Ok.row,
  rw (c.deref.ensures.value, c.in_ok-atom.ensures) at c.in-Ok.ensures.found,
  sym c.values.ensures.value ∙ c.in-Some.ensures ∙ ap (λ (value : ValueContent). value ∷ []) (sym c.in_ok-copy-in-Some.ensures),
)

pub returns-in-Ok : goal.returns-in-Ok
returns-in-Ok g c value stands =
    not_one c.args.text.now c.in-Ok.row (rw (c.deref.ensures.value, c.in_ok-atom.ensures) at c.in-Ok.ensures.only)
    (λ one. c.in-None.ensures (ap length c.values.ensures.value ∙ one)) value stands
