use Rattle.std.proofs.Common.{◌≡◌, ℕ, [], nat_eq, subst, sym, None}
use Rattle.std.specs.Prelude.{IfOk}
use Rattle.std.specs.HashMap.{get}
use Rattle.cq_match.specs.Resting.{IsPartFor}
use Rattle.cq_match.proofs.Rested.{picked-part}
use Rattle.cq_match.proofs.Tracing.{none-rested, not-placed}
use Rattle.cq_match.proofs.resting.part_of.Goals as goal

pub part_at-requires-clause-low : goal.part_at-requires-clause-low
part_at-requires-clause-low g c = (c.requires.placed.only c.args.node c.in-Some.place.now (sym c.in-Some.ensures.value)).0

pub returns-in-Some : goal.returns-in-Some
returns-in-Some g c =
    subst (λ (n : ℕ). IfOk c.part_at.result (λ part. IsPartFor c.args.edges.now c.args.falls.now n part.items)) (c.requires.placed.only c.args.node c.in-Some.place.now (sym c.in-Some.ensures.value)).1 c.part_at.ensures

pub returns-in-None : goal.returns-in-None
returns-in-None g c =
    let edges = c.args.edges.now in
    let falls = c.args.falls.now in
    let none : get nat_eq c.args.places.now c.args.node ≡ None = sym c.in-None.ensures.value in
    rw c.new.ensures.items (picked-part edges falls c.args.node [] (none-rested edges falls c.args.node (not-placed falls (get nat_eq c.args.places.now) c.requires.placed c.args.node none)))
