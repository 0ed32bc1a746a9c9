use Rattle.std.proofs.Common.{◌≡◌, false, true, List, ℕ, get_or, refl, subst, below_more, arith}
use Rattle.std.specs.List.{Contains}
use Rattle.std.proofs.lemmas.List.Elements.{Contains-get_or}
use Rattle.cq_select.proofs.Refuting.{supplied-by, supplied-none}
use Rattle.cq_select.proofs.asked.is_supplied.Goals as goal

pub returns-then-is_chosen : goal.returns-then-is_chosen
returns-then-is_chosen g c below sit =
    let shown = c.suppliers_of-suppliers.result.now in
    let i = c.loop-candidate.candidate-index in
    let m = get_or shown i 0 in
    let among = subst (λ (l : List ℕ). Contains l m) c.suppliers_of-suppliers.ensures (Contains-get_or shown i 0 c.loop-candidate-test.true) in
    (λ t. supplied-by c.args.supply.now below m c.args.atom ((c.if-is_chosen.ensures below sit).0 refl) among, λ h. refl)

pub loop-candidate-preserved : goal.loop-candidate-preserved
loop-candidate-preserved g c below sit = below_more _ _ (c.loop-candidate.invariant below sit) (λ i. let never : false ≡ true = (c.if-is_chosen.ensures below sit).1 i in cc)

pub returns : goal.returns
returns g c below sit = (
  λ t. let never : false ≡ true = t in absurd (cc),
  λ h. absurd (supplied-none c.args.supply.now below c.suppliers_of-suppliers.result.now c.args.atom c.loop-candidate.candidate-index c.suppliers_of-suppliers.ensures (omega arith) (c.loop-candidate.invariant below sit) h),
)
