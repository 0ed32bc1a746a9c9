use Rattle.std.proofs.Common.{take, nat_eq}
use Rattle.std.specs.List.{IsDistinct}
use Rattle.cq_match.specs.Matched.{numbers}
use Rattle.cq_tests_stores.proofs.matching.listed.are_distinct.Given as goal

abbrev pub invariant-loop-place : goal.invariant-loop-place
invariant-loop-place l = IsDistinct nat_eq (numbers (take l.place l.nodes))
