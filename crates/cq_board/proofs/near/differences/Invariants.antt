use Rattle.std.proofs.Common.{◌≡◌, ◌≤◌, take}
use Rattle.cq_board.specs.Near.{differences}
use Rattle.cq_board.proofs.near.differences.Given as goal

-- the places so far are counted
abbrev pub invariant-loop-place : goal.invariant-loop-place
invariant-loop-place g l = record {
  so_far : l.count ≡ differences (take l.place l.head) (take l.place l.wanted);
  few : l.count ≤ l.place;
}
