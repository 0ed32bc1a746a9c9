use Rattle.std.proofs.Common.{◌≡◌, true, false, sym, ◌∙◌}
use Rattle.std.proofs.lemmas.Slice.Eq.{bytes_eq-Decides}
use Rattle.cq_board.proofs.Values.{same-variable, variable-apart, variable-missing}
use Rattle.cq_board.proofs.choice.is_same_variable.Goals as goal

pub returns-in-Some-Some : goal.returns-in-Some-Some
returns-in-Some-Some g c =
    let x = c.in-Some-Some.x.now in
    let y = c.in-Some-Some.y.now in
    let same = same-variable c.args.term.now c.args.other.now x y c.in-Some-Some.ensures.value c.in-Some-Some.ensures'.value in
    let decides = bytes_eq-Decides x y in
    (λ t. same.0 (decides.0 (sym c.eq.ensures ∙ t)), λ h. c.eq.ensures ∙ decides.1 (same.1 h))

pub returns-in_default : goal.returns-in_default
returns-in_default g c = (λ t. let never : false ≡ true = t in cc, λ h. absurd (variable-apart c.args.term.now c.args.other.now c.in_default.ensures'.value h))

pub returns-in_default-2 : goal.returns-in_default-2
returns-in_default-2 g c = (λ t. let never : false ≡ true = t in cc, λ h. absurd (variable-missing c.args.term.now c.args.other.now c.in_default.ensures.value h))
