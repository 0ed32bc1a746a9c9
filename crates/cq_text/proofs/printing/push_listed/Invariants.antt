use Rattle.std.proofs.Common.{◌≡◌, ◌++◌, take, codes, string_bytes}
use Rattle.std.specs.List.{join_by, All}
use Rattle.cq_atom.specs.Value.{IsValue}
use Rattle.cq_text.specs.Print.{printed_value}
use Rattle.cq_text.proofs.printing.push_listed.Given as goal

abbrev pub invariant-loop-place : goal.invariant-loop-place
invariant-loop-place g l = record {
  printed : string_bytes l.printed ≡ string_bytes l.initial.printed ++ join_by printed_value (codes ", ") (take l.place l.values);
  sound : All IsValue (take l.place l.values);
}
