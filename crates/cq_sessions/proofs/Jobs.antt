-- What threads leave, one after another.
use Rattle.std.proofs.Common.{◌≡◌, List, [], ◌∷◌, ◌++◌, length, subst, arith}
use mathlib.Core.List.{IsPrefix}
use Rattle.cq_sessions.specs.Steps.Sheets.{LeavesEach}

module _ {J L : Type 0} (leaves : J → L → Type 0) where
  pub leaves_on : (jobs : List J) (lefts : List L) (job : J) (left : L) → length jobs ≡ length lefts → LeavesEach leaves jobs lefts → leaves job left → LeavesEach leaves (jobs ++ job ∷ []) (lefts ++ left ∷ [])
  leaves_on [] [] job left e each one = (one, tt)
  leaves_on [] (l ∷ lefts) job left e each one = absurd (omega (arith, e))
  leaves_on (j ∷ jobs) [] job left e each one = absurd (omega (arith, e))
  leaves_on (j ∷ jobs) (l ∷ lefts) job left e each one = (each.0, leaves_on jobs lefts job left (omega (arith, e)) each.1 one)

  leaves_append : (front rest : List J) (lefts : List L) → LeavesEach leaves front lefts → LeavesEach leaves (front ++ rest) lefts
  leaves_append front rest [] each = tt
  leaves_append [] rest (l ∷ lefts) each = absurd each
  leaves_append (j ∷ front) rest (l ∷ lefts) each = (each.0, leaves_append front rest lefts each.1)

  -- of jobs of which only the first were run
  pub leaves_front : (front jobs : List J) (lefts : List L) → IsPrefix front jobs → LeavesEach leaves front lefts → LeavesEach leaves jobs lefts
  leaves_front front jobs lefts (rest, is) each = subst (λ (z : List J). LeavesEach leaves z lefts) is (leaves_append front rest lefts each)
