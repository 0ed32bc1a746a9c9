use Rattle.std.proofs.Common.{◌≡◌, take, map}
use Rattle.cq_atom.specs.Valuation.{term_under}
use Rattle.cq_atom.proofs.valuation.terms_under.Given as goal

abbrev pub invariant-loop-term : goal.invariant-loop-term
invariant-loop-term g l = l.made.items ≡ map (term_under l.valuation) (take l.term-index l.terms)
