use Rattle.cq_board.specs.Steps.Residents.{renamed}
use Rattle.cq_board.specs.Steps.Stores.{number_of}
use Rattle.cq_board.proofs.Shows.{all-numbered}
use Rattle.cq_board.proofs.showing.numbered_edges.Goals as goal

pub returns : goal.returns
returns g c known distinct =
    all-numbered (renamed (number_of c.args.places.now.keys)) c.args.places.now.keys c.args.matcher.now.edges c.new-edges.result.items c.add_all.new.edges.items known distinct c.new-edges.ensures.items c.in_ok-add_all.ensures
