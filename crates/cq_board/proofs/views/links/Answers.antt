use Rattle.std.proofs.Common.{ap, ◌∙◌, arith, map}
use Rattle.std.proofs.lemmas.List.{take_all}
use Rattle.cq_board.specs.Board.{link_of}
use Rattle.cq_board.specs.Named.{link_read}
use Rattle.cq_board.proofs.Ends.{HasEnds-at, map_more}
use Rattle.cq_board.proofs.ViewSeats.{as-many}
use Rattle.cq_board.proofs.views.links.Goals as goal

pub link-requires-clause-provider : goal.link-requires-clause-provider
link-requires-clause-provider g c =
    let many = as-many (λ name. name.now) c.args.names.now c.requires.0 c.requires.1 in
    let low = (HasEnds-at c.requires.0 c.args.edges.now c.requires.2 c.loop-edge.edge-index (record { provider = 0; head = 0; waiter = 0; post = 0 }) c.loop-edge-test.true).provider in
    omega (arith, low, many)

pub link-requires-clause-waiter : goal.link-requires-clause-waiter
link-requires-clause-waiter g c =
    let many = as-many (λ name. name.now) c.args.names.now c.requires.0 c.requires.1 in
    let low = (HasEnds-at c.requires.0 c.args.edges.now c.requires.2 c.loop-edge.edge-index (record { provider = 0; head = 0; waiter = 0; post = 0 }) c.loop-edge-test.true).waiter in
    omega (arith, low, many)

pub loop-edge-preserved : goal.loop-edge-preserved
loop-edge-preserved g c pending named =
    ap (map (link_read (λ name. name.now))) c.in_ok-push.ensures.items
    ∙ map_more (link_read (λ name. name.now)) (link_of pending) c.loop-edge.links.items c.link.result c.args.edges.now c.loop-edge.edge-index
    (record { provider = 0; head = 0; waiter = 0; post = 0 }) c.loop-edge-test.true (c.loop-edge.invariant pending named) (c.link.ensures pending named)

pub returns : goal.returns
returns g c pending named edges =
    c.loop-edge.invariant pending named
    ∙ ap (map (link_of pending)) (take_all c.loop-edge.edge-index c.args.edges.now (omega arith))
    ∙ ap (map (link_of pending)) edges
