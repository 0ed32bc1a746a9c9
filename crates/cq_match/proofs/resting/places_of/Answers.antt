use Rattle.std.proofs.Common.{◌≡◌, length, nat_eq, subst, arith}
use Rattle.std.specs.HashMap.{get}
use Rattle.cq_match.specs.Steps.Resting.{ArePlaces}
use Rattle.cq_match.proofs.Tracing.{placed-more}
use Rattle.cq_match.proofs.resting.places_of.Goals as goal

pub loop-place-preserved : goal.loop-place-preserved
loop-place-preserved g c =
    placed-more c.args.falls.now c.requires c.loop-place.place c.loop-place-test.true (get nat_eq c.loop-place.places) (get nat_eq c.insert.new.self) c.in_ok-insert.ensures.updates.0 c.loop-place.invariant

pub returns : goal.returns
returns g c =
    let all : c.loop-place.place ≡ length c.args.falls.now = omega arith in
    subst (λ n. ArePlaces c.args.falls.now n (get nat_eq c.loop-place.places)) all c.loop-place.invariant
