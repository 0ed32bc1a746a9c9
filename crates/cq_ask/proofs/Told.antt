-- The verdict on words that stand for choices, or for none.
use Rattle.std.proofs.Common.{◌≡◌, ℕ, Bool, true, false, List, [], ◌∷◌, length, map, refl, inl, arith, Some, None}
use Rattle.std.specs.Prelude.{◌↔◌}
use Rattle.cq_board.specs.Choice.{ChoiceRecord, IsCoordinating}
use Rattle.cq_board.specs.Pool.{PoolRecord}
use Rattle.cq_ask.specs.Answer.{IsVerdict}
use Rattle.cq_ask.specs.Choices.{StandForChoices}

module _ {X : Type 0} (read : X → List ℕ) (pool : PoolRecord) where
  -- words of which there are none
  pub verdict_none : (words : List X) → length words ≡ 0 → IsVerdict pool (map read words) None
  verdict_none [] none = inl refl
  verdict_none (word ∷ words) none = absurd (omega (arith, none))

  -- words that stand for choices
  pub verdict_on : (words : List X) (choices : List ChoiceRecord) (coordinates : Bool) → (length words ≡ 0 → ⊥) → StandForChoices (map read words) choices
      → (coordinates ≡ true) ↔ IsCoordinating pool choices → IsVerdict pool (map read words) (Some coordinates)
  verdict_on [] choices coordinates some stand so = absurd (some refl)
  verdict_on (word ∷ words) choices true some stand so = (omega arith, (choices, stand, so.0 refl))
  verdict_on (word ∷ words) choices false some stand so = (omega arith, (choices, stand, λ is. let never : false ≡ true = so.1 is in cc))
