use Rattle.std.proofs.Common.{◌≡◌, ℕ, List, ◌++◌}
use Rattle.std.specs.FinMap.{from_entries}
use Rattle.cq_atom.specs.Atom.{AtomRecord}
use Rattle.cq_index.proofs.index.AtomIndex.copy.Given as goal

abbrev pub invariant-loop-place : goal.invariant-loop-place
invariant-loop-place g l = record {
  done : List (ℕ × AtomRecord);
  split : l.initial.place-iterator ≡ done ++ l.place-iterator;
  made : l.copy ≡ from_entries done;
}
