-- How the copies of a pair, their pending steps and the history are in step. (this project's profile)
use Rattle.std.specs.Prelude.{◌≡◌, List, [], ◌∷◌, Option, Some, None, fold}
use mathlib.Core.List.{IsPrefix}
use Rattle.cq_room.specs.declared.mark.Mark.{Mark}
use Rattle.cq_room.specs.Marks.{fresh_in}
use Rattle.cq_room.specs.Pair.{opening_or}

-- The marks that the last of these steps ends; where there is none, these.
abbrev pub last_of : {M : Type 0} → M → List M → M
last_of marks steps = fold (λ _ step. step) marks steps

-- The same, where a step may wait after the others.
abbrev pub ends_at : {M : Type 0} → M → List M → Option M → M
ends_at marks steps None = last_of marks steps
ends_at marks steps (Some step) = step

-- What the copies show, the pending steps and the step that waits are in step with the trail of the whole history. What is shown ends in no entry: all of its entries stand in publications.
pub record IsPaired {E C : Type 0} (opening : List C) (content : C) (shown : List (Mark E)) (steps : List (List (Mark E))) (waiting : Option (List (Mark E))) (trail : List (Mark E)) : Type 0 where
  pub opened : opening ≡ opening_or content opening ∷ []
  pub begins : IsPrefix shown trail
  pub whole : fresh_in shown ≡ []
  pub ends : ends_at shown steps waiting ≡ trail
