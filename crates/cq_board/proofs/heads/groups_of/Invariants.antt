use Rattle.std.proofs.Common.{◌≡◌, ℕ, List, map, take}
use Rattle.std.specs.List.{flat_map, enumerate_from}
use Rattle.cq_board.specs.Steps.Heads.{AreTold, heads_at, kept_under}
use Rattle.cq_board.proofs.heads.groups_of.Given as goal

-- the heads of the seats so far are in
abbrev pub invariant-loop-number : goal.invariant-loop-number
invariant-loop-number g l = record {
  kept : (relation : List ℕ) (arity : ℕ) → kept_under l.groups relation arity ≡ flat_map (heads_at relation arity l.grounded) (enumerate_from 0 (map (λ s. s.now.place) (take l.number l.seats)));
  told : AreTold l.groups;
}
