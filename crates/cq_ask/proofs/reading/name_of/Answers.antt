use Rattle.std.proofs.Common.{refl}
use Rattle.cq_ask.proofs.Names.{no_name}
use Rattle.cq_ask.proofs.reading.name_of.Goals as goal

pub returns-in_default : goal.returns-in_default
returns-in_default g c = rw (no_name c.args.word.now c.in_default.ensures.cases.0) refl
