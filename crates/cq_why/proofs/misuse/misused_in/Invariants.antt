use Rattle.std.proofs.Common.{◌≡◌, drop}
use Rattle.cq_why.specs.Why.{misused, uses_of_body}
use Rattle.cq_why.proofs.misuse.misused_in.Given as goal

-- those so far have their places
abbrev pub invariant-loop-atom : goal.invariant-loop-atom
invariant-loop-atom g l = misused l.catalog (uses_of_body (drop l.atom-index l.body)) ≡ misused l.catalog (uses_of_body l.body)
