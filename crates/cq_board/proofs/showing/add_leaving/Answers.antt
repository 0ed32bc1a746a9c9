use Rattle.std.proofs.Common.{filter}
use Rattle.cq_match.specs.Matcher.{leaves}
use Rattle.cq_board.specs.Steps.Residents.{renamed}
use Rattle.cq_board.specs.Steps.Stores.{number_of}
use Rattle.cq_board.proofs.Shows.{on_ok, mapped-behind}
use Rattle.cq_board.proofs.showing.add_leaving.Goals as goal

pub returns : goal.returns
returns g c =
    on_ok
    (mapped-behind (renamed (number_of c.args.places.now.keys)) c.args.edges.now.items c.add_numbered.new.edges.items (filter (leaves c.args.place) c.args.matcher.now.edges) c.in_ok-leaving.leaving.items c.deref.result.now
    c.in_ok-leaving.ensures.permutation c.deref.ensures.value)
    c.add_numbered.result c.add_numbered.ensures
