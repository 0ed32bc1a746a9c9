use Rattle.std.proofs.Common.{◌≡◌, map, take}
use Rattle.cq_board.specs.Named.{matched_named}
use Rattle.cq_going.specs.Reasons.{is_yes}
use Rattle.cq_going.proofs.grouping.matched_of.Given as goal

-- the flags of the names so far
abbrev pub invariant-loop-name : goal.invariant-loop-name
invariant-loop-name g l = l.flags.items ≡ map (λ name. is_yes (matched_named name.now l.board)) (take l.name-index l.names)
