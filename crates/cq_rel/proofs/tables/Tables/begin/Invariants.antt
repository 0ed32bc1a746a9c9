use Rattle.std.proofs.Common.{◌≡◌, [], List, length}
use Rattle.std.specs.List.{AllByRecursion}
use Rattle.cq_atom.specs.Atom.{RowRecord}
use Rattle.cq_rel.proofs.tables.Tables.begin.Given as goal

abbrev pub invariant-loop : goal.invariant-loop
invariant-loop g l = record { empty : AllByRecursion (λ (rows : List RowRecord). rows ≡ []) l.tables.items; count : length l.tables.items ≡ l.counter }
