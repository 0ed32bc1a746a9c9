use Rattle.std.proofs.Common.{◌≡◌, ◌++◌, take, codes}
use Rattle.std.specs.Prelude.{string_bytes}
use Rattle.std.specs.List.{join_by}
use Rattle.cq_atom.specs.Valuation.{term_under}
use Rattle.cq_board.specs.Choice.{bound}
use Rattle.cq_text.specs.Print.{printed_term}
use Rattle.cq_going.proofs.printing.put_terms.Given as goal

-- the page has the terms so far
abbrev pub invariant-loop-place : goal.invariant-loop-place
invariant-loop-place g l = string_bytes l.page ≡ string_bytes l.initial.page ++ join_by (λ term. printed_term (term_under (bound l.query l.values) term)) (codes ", ") (take l.place l.terms)
