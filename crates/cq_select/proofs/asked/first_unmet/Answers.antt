use Rattle.std.proofs.Common.{◌≡◌, ◌≤◌, false, true, length, refl, subst, arith}
use Rattle.std.specs.List.{All}
use Rattle.std.proofs.lemmas.List.{take_all}
use Rattle.std.proofs.lemmas.List.Elements.{All-more}
use Rattle.cq_select.specs.Selection.{IsSupplied}
use Rattle.cq_select.proofs.asked.first_unmet.Goals as goal

pub returns-then-not-is_supplied : goal.returns-then-not-is_supplied
returns-then-not-is_supplied g c below sit met = record {
  low = c.loop-place-test.true;
  unmet = λ h. let never : false ≡ true = (c.if-not-is_supplied.ensures below sit).1 h in cc;
  before = c.loop-place.invariant below sit met;
}

pub loop-place-preserved : goal.loop-place-preserved
loop-place-preserved g c below sit met =
    All-more (IsSupplied c.args.supply.now below) c.args.atoms.now c.loop-place.place 0 c.loop-place-test.true (c.loop-place.invariant below sit met) ((c.if-not-is_supplied.ensures below sit).0 refl)

pub returns : goal.returns
returns g c below sit met =
    let past : length c.args.atoms.now ≤ c.loop-place.place = omega arith in
    subst (All (IsSupplied c.args.supply.now below)) (take_all c.loop-place.place c.args.atoms.now past) (c.loop-place.invariant below sit met)
