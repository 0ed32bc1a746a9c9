use Rattle.std.proofs.Common.{◌≡◌, drop}
use Rattle.cq_rel.specs.Tables.{arity_in}
use Rattle.cq_rel.proofs.catalog.Catalog.arity_of.Given as goal

abbrev pub invariant-loop-entry : goal.invariant-loop-entry
invariant-loop-entry g l = arity_in l.self l.relation ≡ arity_in (drop l.entry-index l.entry-items) l.relation
