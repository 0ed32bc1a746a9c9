use Rattle.std.proofs.Common.{◌≡◌, ◌≤◌, ◌*◌, ◌^◌, ◌+◌, drop, length}
use Rattle.std.specs.Prelude.{fold}
use Rattle.cq_rel.specs.Tables.{rows_in}
use Rattle.cq_ask.specs.Answer.{row_count}
use Rattle.cq_ask.proofs.counts.row_count.Given as goal

-- the rows so far, and those of the relations that are left
abbrev pub invariant-loop-place : goal.invariant-loop-place
invariant-loop-place g l = record {
  sum : fold (λ count declared. count + length (rows_in declared.relation l.tables)) l.count (drop l.place l.tables.catalog) ≡ row_count l.tables;
  small : l.count ≤ l.place * 2 ^ 64;
}
