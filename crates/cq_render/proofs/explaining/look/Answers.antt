use Rattle.cq_render.specs.Steps.Falls.{AreFalls}
use Rattle.cq_render.proofs.explaining.look.Goals as goal

pub returns-clause-fell : goal.returns-clause-fell
returns-clause-fell g c =
    let told = c.in_ok-falls.ensures in
    let all : AreFalls c.args.board.now c.in_ok-falls.falls.items = record { falling = told.falls; unmatched = told.unmatched; once = told.once; rounds = told.rounds } in
    rw c.in_ok-listing.ensures all
