use Rattle.std.proofs.Common.{◌≡◌, ◌++◌, drop}
use Rattle.cq_render.proofs.Arrays.{listed}
use Rattle.cq_render.specs.Json.{atom_json}
use Rattle.cq_render.proofs.data.put_each_atom.Given as goal

abbrev pub invariant-loop-atom : goal.invariant-loop-atom
invariant-loop-atom g l = l.sheet ++ listed atom_json (drop l.atom-index l.atoms) ≡ l.initial.sheet ++ listed atom_json l.atoms
