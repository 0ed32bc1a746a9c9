use Rattle.cq_board.proofs.ViewSeats.{name-there}
use Rattle.cq_board.proofs.views.name_of.Goals as goal

pub returns : goal.returns
returns g c pending same = name-there (λ name. name.now) c.args.names.now pending c.args.number c.index-names-number.result same c.requires c.index-names-number.is
