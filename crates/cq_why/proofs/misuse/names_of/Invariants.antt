use Rattle.std.proofs.Common.{◌≡◌, ◌++◌, map, drop}
use Rattle.cq_rel.specs.Tables.{relation_of}
use Rattle.cq_why.proofs.misuse.names_of.Given as goal

-- the names, and those of the relations that are left
abbrev pub invariant-loop-place : goal.invariant-loop-place
invariant-loop-place g l = map (λ name. name.now) l.names.items ++ map relation_of (drop l.place l.catalog) ≡ map relation_of l.catalog
