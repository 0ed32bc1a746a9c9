use Rattle.std.proofs.Common.{◌≡◌, ℕ, List, ◌++◌, take}
use Rattle.std.specs.List.{flat_map, enumerate_from}
use Rattle.cq_board.specs.Steps.Heads.{AreTold, head_if, kept_under}
use Rattle.cq_board.proofs.heads.put_heads.Given as goal

-- the heads so far are in
abbrev pub invariant-loop-place : goal.invariant-loop-place
invariant-loop-place g l = record {
  kept : (relation : List ℕ) (arity : ℕ) → kept_under l.groups relation arity ≡ kept_under l.fn.groups relation arity ++ flat_map (head_if relation arity l.number) (enumerate_from 0 (take l.place l.heads));
  told : AreTold l.fn.groups → AreTold l.groups;
}
