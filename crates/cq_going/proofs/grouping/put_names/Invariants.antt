use Rattle.std.proofs.Common.{◌≡◌, ◌++◌, take, codes}
use Rattle.std.specs.Prelude.{string_bytes}
use Rattle.std.specs.List.{join_by}
use Rattle.cq_going.proofs.grouping.put_names.Given as goal

-- the page has the names so far
abbrev pub invariant-loop-place : goal.invariant-loop-place
invariant-loop-place g l = string_bytes l.page ≡ string_bytes l.initial.page ++ join_by (λ n. n) (codes " ") (take l.place l.names)
