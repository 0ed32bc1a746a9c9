use Rattle.std.proofs.Common.{◌≡◌, ◌<◌, ◌≤◌, length, get_or, arith, ap, subst, ◌∙◌}
use Rattle.std.specs.List.{remove}
use Rattle.std.proofs.lemmas.List.Edits.{length-remove}
use Rattle.cq_blocks.specs.Blocks.{elements}
use Rattle.cq_blocks.proofs.Fates.{read-at, kept-first, kept-stays, kept-goes, kept-ends, kept-all}
use Rattle.cq_blocks.proofs.Edited.{left-less, not-missed}
use Rattle.cq_blocks.proofs.blocks.Blocks.retain_equal.Goals as goal

pub equal-init : goal.equal-init
equal-init g c = record {
  within = c.count_less-index.ensures.bound;
  order = c.count_less-index.ensures.callable;
  pred = c.requires.pred;
  kept = λ ord p first second.
      let known = c.count_less-index.ensures.partitioned ord first in
      (known.0, second, (λ less upto. kept-first ord p (elements c.args.self.now) c.count_less-index.result c.count_less-index.ensures.bound (known.1 less) upto));
}

pub equal-preserved-in-Stays : goal.equal-preserved-in-Stays
equal-preserved-in-Stays g c =
    let old = elements c.args.self.now in
    let now = elements c.equal.self in
    let x = c.in-Some.element.now in
    let within : c.equal.index < length (elements c.equal.self) = omega arith in
    let read : c.in-Some.element.now ≡ get_or (elements c.equal.self) c.equal.index c.in-Some.element.now = read-at now _ c.equal.index x c.place_at-place.ensures.before c.in-Some.ensures in record {
      within = omega arith;
      order = c.fate_of.ensures.order;
      pred = c.fate_of.ensures.pred;
      kept = λ ord p first second.
          let known = c.equal.invariant.kept ord p first second in
          let fate = c.in-Stays.ensures.fate ord p known.0 known.1 in
          (fate.0, fate.1, (λ less upto. kept-stays ord p old now c.equal.index x within read (known.2 less upto) fate.2.0 fate.2.1));
    }

pub equal-preserved-in-Goes : goal.equal-preserved-in-Goes
equal-preserved-in-Goes g c =
    let old = elements c.args.self.now in
    let now = elements c.equal.self in
    let next = elements c.remove.new.self in
    let x = c.in-Some.element.now in
    let within : c.equal.index < length (elements c.equal.self) = omega arith in
    let read : c.in-Some.element.now ≡ get_or (elements c.equal.self) c.equal.index c.in-Some.element.now = read-at now _ c.equal.index x c.place_at-place.ensures.before c.in-Some.ensures in
    let is : elements c.remove.new.self ≡ remove (elements c.equal.self) c.equal.index = c.remove.ensures.rest ∙ ap (λ n. remove now n) c.place_at-place.ensures.before in record {
      within = omega (arith, length-remove now c.equal.index within, ap (λ l. length l) is);
      order = c.fate_of.ensures.order;
      pred = c.fate_of.ensures.pred;
      kept = λ ord p first second.
          let known = c.equal.invariant.kept ord p first second in
          let fate = c.in-Goes.ensures.fate ord p known.0 known.1 in
          (fate.0, fate.1, (λ less upto. kept-goes ord p old now c.equal.index x within read (known.2 less upto) next fate.2.0 fate.2.1 is));
    }

pub returns-in-Ends : goal.returns-in-Ends
returns-in-Ends g c ord p first second less upto =
    let old = elements c.args.self.now in
    let now = elements c.equal.self in
    let x = c.in-Some.element.now in
    let within : c.equal.index < length (elements c.equal.self) = omega arith in
    let read : c.in-Some.element.now ≡ get_or (elements c.equal.self) c.equal.index c.in-Some.element.now = read-at now _ c.equal.index x c.place_at-place.ensures.before c.in-Some.ensures in
    let known = c.equal.invariant.kept ord p first second in
    let fate = c.in-Ends.ensures.fate ord p known.0 known.1 in
    kept-ends ord p old now c.equal.index x within read (known.2 less upto) fate.2

pub equal-preserved : goal.equal-preserved
equal-preserved g c =
    let old = elements c.args.self.now in
    let now = elements c.equal.self in
    let next = elements c.remove.new.self in
    let x = c.in-Some.element.now in
    let within : c.equal.index < length (elements c.equal.self) = omega arith in
    let read : c.in-Some.element.now ≡ get_or (elements c.equal.self) c.equal.index c.in-Some.element.now = read-at now _ c.equal.index x c.place_at-place.ensures.before c.in-Some.ensures in
    let is : elements c.remove.new.self ≡ remove (elements c.equal.self) c.equal.index = c.remove.ensures.rest ∙ ap (λ n. remove now n) c.place_at-place.ensures.before in record {
      within = omega (arith, length-remove now c.equal.index within, ap (λ l. length l) is);
      order = c.fate_of.ensures.order;
      pred = c.fate_of.ensures.pred;
      kept = λ ord p first second.
          let known = c.equal.invariant.kept ord p first second in
          let fate = c.in-Goes.ensures.fate ord p known.0 known.1 in
          (fate.0, fate.1, (λ less upto. kept-goes ord p old now c.equal.index x within read (known.2 less upto) next fate.2.0 fate.2.1 is));
    }

pub equal-smaller-in-Goes : goal.equal-smaller-in-Goes
equal-smaller-in-Goes g c =
    left-less (elements c.equal.self) (elements c.remove.new.self) _ c.equal.index (subst (λ n. c.equal.index < n) c.len.ensures c.equal-test.true) c.place_at-place.ensures.before c.remove.ensures.rest

pub equal-smaller : goal.equal-smaller
equal-smaller g c =
    left-less (elements c.equal.self) (elements c.remove.new.self) _ c.equal.index (subst (λ n. c.equal.index < n) c.len.ensures c.equal-test.true) c.place_at-place.ensures.before c.remove.ensures.rest

pub unreachable-requires : goal.unreachable-requires
unreachable-requires g c =
    not-missed (elements c.equal.self) _ c.equal.index (subst (λ n. c.equal.index < n) c.len.ensures c.equal-test.true) c.place_at-place.ensures.before c.in_default.ensures

pub returns : goal.returns
returns g c ord p first second less upto =
    kept-all ord p (elements c.args.self.now) (elements c.equal.self) c.equal.index ((c.equal.invariant.kept ord p first second).2 less upto) (subst (λ n. n ≤ c.equal.index) c.len.ensures c.equal-test.false)
