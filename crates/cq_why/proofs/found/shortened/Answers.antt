use Rattle.std.proofs.Common.{sym, arith}
use Rattle.std.proofs.lemmas.List.{take_all}
use Rattle.cq_why.proofs.found.shortened.Goals as goal

pub returns-then-rest-lt-MOST_SHOWN : goal.returns-then-rest-lt-MOST_SHOWN
returns-then-rest-lt-MOST_SHOWN c = sym (take_all 40 c.args.rest.now (omega arith))
