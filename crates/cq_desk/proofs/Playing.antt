-- Events that come one after another.
use Rattle.std.proofs.Common.{◌≡◌, List, [], ◌∷◌, ◌++◌, Option, Result, length, drop, refl, subst, sym, ap, ◌∙◌}
use Rattle.cq_desk.specs.declared.event.Event.{Event}
use Rattle.cq_desk.specs.declared.event.Answer.{Answer}
use Rattle.cq_desk.specs.declared.event.StepFault.{StepFault}
use Rattle.cq_desk.specs.Machine.{MachineRecord, answer_to, answers_to, machine_after, machine_run}
use Rattle.cq_desk.specs.Standing.{MayWant, StopsAt}
use Rattle.cq_desk.proofs.Histories.{rest_is}

module _ {E C W : Type 0} (after : C → E → C) (why : C → E → Option W) where
  run-snoc : (m : MachineRecord C E) (es : List (Event E)) (e : Event E) → machine_run after why m (es ++ e ∷ []) ≡ machine_after after why (machine_run after why m es) e
  run-snoc m [] e = refl
  run-snoc m (x ∷ es) e = run-snoc (machine_after after why m x) es e

  answers-snoc : (m : MachineRecord C E) (es : List (Event E)) (e : Event E) → answers_to after why m (es ++ e ∷ []) ≡ answers_to after why m es ++ answer_to after why (machine_run after why m es) e ∷ []
  answers-snoc m [] e = refl
  answers-snoc m (x ∷ es) e = ap (λ z. answer_to after why m x ∷ z) (answers-snoc (machine_after after why m x) es e)

  -- one answer more
  pub answered_on : (a f : MachineRecord C E) (es : List (Event E)) (e : Event E) (told new : List (Result (Answer W) StepFault)) (t : Result (Answer W) StepFault) → f ≡ machine_run after why a es → told ≡ answers_to after why a es → t ≡ answer_to after why f e → new ≡ told ++ t ∷ [] → new ≡ answers_to after why a (es ++ e ∷ [])
  answered_on a f es e told new t now was answer is =
      is ∙ (ap (λ z. told ++ z ∷ []) (answer ∙ ap (λ v. answer_to after why v e) now)
      ∙ (ap (λ z. z ++ answer_to after why (machine_run after why a es) e ∷ []) was ∙ sym (answers-snoc a es e)))

  -- one step more
  pub stepped_on : (a f g : MachineRecord C E) (es : List (Event E)) (e : Event E) → f ≡ machine_run after why a es → g ≡ machine_after after why f e → g ≡ machine_run after why a (es ++ e ∷ [])
  stepped_on a f g es e now is = is ∙ (ap (λ v. machine_after after why v e) now ∙ sym (run-snoc a es e))

  -- the first event that has not happened
  pub stops_at : {B : Type 0} (f g : MachineRecord C E) (done rest all : List (Event E)) (e : Event E) (answers : List B) → g ≡ f → MayWant (answer_to after why f e) → done ++ e ∷ rest ≡ all → length answers ≡ length done → StopsAt after why g (drop (length answers) all)
  stops_at f g done rest all e answers same want is n =
      subst (λ v. StopsAt after why v (drop (length answers) all)) (sym same) (subst (StopsAt after why f) (rest_is done (e ∷ rest) all is ∙ ap (λ k. drop k all) (sym n)) want)
