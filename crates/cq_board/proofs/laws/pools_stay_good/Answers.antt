use Rattle.cq_board.proofs.Rows.{stays_good}
use Rattle.cq_board.proofs.laws.pools_stay_good.Goals as goal

pub returns : goal.returns
returns c pool edit good = stays_good pool edit good
