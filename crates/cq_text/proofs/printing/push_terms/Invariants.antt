use Rattle.std.proofs.Common.{◌≡◌, ◌++◌, take, codes, string_bytes}
use Rattle.std.specs.List.{join_by, All}
use Rattle.cq_text.specs.Sound.{IsSoundTerm}
use Rattle.cq_text.specs.Print.{printed_term}
use Rattle.cq_text.proofs.printing.push_terms.Given as goal

abbrev pub invariant-loop-place : goal.invariant-loop-place
invariant-loop-place g l = record {
  printed : string_bytes l.printed ≡ string_bytes l.initial.printed ++ join_by printed_term (codes ", ") (take l.place l.terms);
  sound : All IsSoundTerm (take l.place l.terms);
}
