use Rattle.std.proofs.Common.{refl}
use Rattle.cq_going.specs.Data.{undecided_json}
use Rattle.cq_going.specs.declared.telling.Outcome.TheVariants.{Undecided}
use Rattle.cq_going.proofs.Tellings.{on_ok}
use Rattle.cq_going.proofs.data.put_sought.Goals as goal

pub returns-in-Undecided : goal.returns-in-Undecided
returns-in-Undecided g c = on_ok c.put_undecided.result (λ is. (undecided_json, (Undecided, refl), is)) c.put_undecided.ensures
