use Rattle.std.proofs.Common.{map, filter, arith}
use Rattle.cq_match.specs.Matcher.{leaves}
use Rattle.cq_board.specs.Steps.Residents.{renamed}
use Rattle.cq_board.specs.Steps.Stores.{number_of}
use Rattle.cq_board.proofs.Shows.{gathered-behind}
use Rattle.cq_board.proofs.showing.add_all.Goals as goal

pub loop-place-preserved : goal.loop-place-preserved
loop-place-preserved g c =
    gathered-behind (λ place. map (renamed (number_of c.args.places.now.keys)) (filter (leaves place) c.args.matcher.now.edges)) c.args.edges.now.items c.loop-place.edges.items c.add_leaving.new.edges.items
    c.as_slice-place-items.result.now c.loop-place.place-index _ (omega arith) c.loop-place.invariant c.in_ok-add_leaving.ensures
