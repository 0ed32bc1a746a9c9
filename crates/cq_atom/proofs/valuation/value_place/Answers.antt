use Rattle.std.specs.Prelude.{string_bytes}
use Rattle.std.specs.List.{slice_get}
use Rattle.std.specs.Option.{option_and_then}
use Rattle.std.proofs.Common.{sym, ap, ◌∙◌}
use Rattle.cq_atom.proofs.Bound.{value_at-place}
use Rattle.cq_atom.proofs.valuation.value_place.Goals as goal

pub returns-clause-value : goal.returns-clause-value
returns-clause-value g c = λ values.
    value_at-place string_bytes values c.args.name.now c.args.names.now ∙ ap (option_and_then (slice_get values)) (sym c.first_place.ensures)
