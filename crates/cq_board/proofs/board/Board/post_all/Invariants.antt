use Rattle.std.proofs.Common.{◌≡◌, map, drop}
use Rattle.cq_atom.specs.declared.edit.EditKind.TheVariants.{Post}
use Rattle.cq_board.specs.Scratch.{scratch_of}
use Rattle.cq_board.proofs.board.Board.post_all.Given as goal

-- the queries that are left make of the pool what all queries make of the first one
abbrev pub invariant-loop-name : goal.invariant-loop-name
invariant-loop-name g l = scratch_of l.self (map (λ q. Post q.0 q.1) (drop l.name-index l.queries)) ≡ scratch_of l.initial.self (map (λ q. Post q.0 q.1) l.queries)
