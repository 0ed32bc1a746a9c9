use Rattle.std.proofs.Common.{◌≡◌, length}
use Rattle.cq_text.specs.Steps.Lists.{first_unbound_from}
use Rattle.cq_text.proofs.reading.Reader.first_unbound.Given as goal

abbrev pub invariant-lexemes : goal.invariant-lexemes
invariant-lexemes g l = first_unbound_from l.body l.self ≡ first_unbound_from l.body l.fn.self

abbrev pub decreases-lexemes : goal.decreases-lexemes
decreases-lexemes g l = length l.self.lexemes
