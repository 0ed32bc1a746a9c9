use Rattle.std.proofs.Common.{◌-◌, ◌≤◌, vec_len}
use Rattle.cq_text.specs.Steps.Lists.{atom_at, atoms_at}
use Rattle.cq_text.specs.Forms.{most_atoms}
use Rattle.cq_text.proofs.Loops.{SoFar}
use Rattle.cq_text.proofs.reading.Reader.atoms.Given as goal

abbrev pub invariant-atoms : goal.invariant-atoms
invariant-atoms g l = record {
  few : vec_len l.atoms ≤ most_atoms l.form;
  goes_on : SoFar (atom_at l.form l.close) (most_atoms l.form) l.atoms.items (vec_len l.atoms) l.self (atoms_at l.form l.close l.fn.self);
}

abbrev pub decreases-atoms : goal.decreases-atoms
decreases-atoms g l = most_atoms l.form - vec_len l.atoms
