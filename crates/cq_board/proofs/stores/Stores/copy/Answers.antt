use Rattle.std.proofs.Common.{◌∙◌}
use Rattle.cq_board.proofs.Stored.{content_of, same-content}
use Rattle.cq_board.proofs.stores.Stores.copy.Goals as goal

pub returns : goal.returns
returns g c =
    let seats = c.in_ok-roster.ensures in
    let queries = c.in_ok-grounded.ensures in
    same-content (record { seats = c.in_ok-roster.roster; grounded = c.in_ok-grounded.grounded; links = c.in_ok-grounded.links; matcher = c.in_ok-roster.matcher }) (content_of c.self.inside)
    seats.0 queries.0 queries.1 seats.1
    ∙ c.self.view_is
