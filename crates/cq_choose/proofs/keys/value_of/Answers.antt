use Rattle.std.proofs.Common.{List, ℕ, Option, Some, None, refl, sym, ap, ◌≡◌, ◌∙◌, length, zip}
use Rattle.std.specs.Borrow.{Bor}
use Rattle.std.specs.List.{slice_get}
use Rattle.std.specs.Option.{option_and_then, option_copied}
use Rattle.std.specs.Slice.{IsItemAt}
use Rattle.std.proofs.lemmas.Option.{slice_get_past, slice_get_read}
use Rattle.cq_atom.specs.Valuation.{value_at}
use Rattle.cq_choose.proofs.keys.value_of.Goals as goal

-- what is read at a place, if anything
got : {X : Type 0} (xs : List X) (i : ℕ) (r : Option (Bor X)) → IsItemAt xs i r → option_copied r ≡ slice_get xs i
got xs i None h = sym (slice_get_past xs i h.3)
got xs i (Some b) h = sym (slice_get_read xs (length xs) i b.now refl h.3.0 h.1)

pub returns-in_err-place : goal.returns-in_err-place
returns-in_err-place g c =
    let values = c.args.instance.now.values.now in
    ap option_copied c.from_residual.ensures
    ∙ sym (ap (λ (names : List (List ℕ)). value_at (zip names values) c.args.name.now) (sym c.variables.ensures) ∙ c.value_place.ensures.value values ∙ ap (option_and_then (slice_get values)) c.in_err-place.was)

pub returns : goal.returns
returns g c =
    let values = c.args.instance.now.values.now in
    got values c.in_ok-place.place c.get.result c.get.ensures.lookup
    ∙ sym (ap (λ (names : List (List ℕ)). value_at (zip names values) c.args.name.now) (sym c.variables.ensures) ∙ c.value_place.ensures.value values ∙ ap (option_and_then (slice_get values)) c.in_ok-place.was)
