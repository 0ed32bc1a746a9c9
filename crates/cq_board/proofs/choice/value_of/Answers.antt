use Rattle.std.proofs.Common.{List, ℕ, sym, ap, ◌∙◌, zip}
use Rattle.std.specs.List.{slice_get}
use Rattle.std.specs.Option.{option_and_then, option_copied}
use Rattle.cq_atom.specs.Valuation.{value_at}
use Rattle.cq_board.proofs.Values.{got}
use Rattle.cq_board.proofs.choice.value_of.Goals as goal

pub returns-in_err-place : goal.returns-in_err-place
returns-in_err-place g c =
    let values = c.args.member.now.values.now in
    ap option_copied c.from_residual.ensures
    ∙ sym (ap (λ (names : List (List ℕ)). value_at (zip names values) c.args.name.now) (sym c.variables.ensures) ∙ c.value_place.ensures.value values ∙ ap (option_and_then (slice_get values)) c.in_err-place.was)

pub returns : goal.returns
returns g c =
    let values = c.args.member.now.values.now in
    got values c.in_ok-place.place c.get.result c.get.ensures.lookup
    ∙ sym (ap (λ (names : List (List ℕ)). value_at (zip names values) c.args.name.now) (sym c.variables.ensures) ∙ c.value_place.ensures.value values ∙ ap (option_and_then (slice_get values)) c.in_ok-place.was)
