use Rattle.std.proofs.Common.{◌≡◌, ◌++◌, take, codes, string_bytes}
use Rattle.std.specs.List.{join_by, All}
use Rattle.cq_text.specs.Sound.{IsSoundAtom}
use Rattle.cq_text.specs.Print.{printed_atom}
use Rattle.cq_text.proofs.printing.push_atoms.Given as goal

abbrev pub invariant-loop-place : goal.invariant-loop-place
invariant-loop-place g l = record {
  printed : string_bytes l.printed ≡ string_bytes l.initial.printed ++ join_by printed_atom (codes ", ") (take l.place l.atoms);
  sound : All IsSoundAtom (take l.place l.atoms);
}
