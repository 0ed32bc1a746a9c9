use Rattle.std.proofs.Common.{◌≡◌, List, map, take}
use Rattle.cq_board.specs.Pool.{PendingQuery, name_of}
use Rattle.cq_board.specs.Waiting.{wait_named, wait_read}
use Rattle.cq_board.proofs.waiting.named.Given as goal

-- the waits so far have their names
abbrev pub invariant-loop-fall : goal.invariant-loop-fall
invariant-loop-fall g l =
    (pending : List PendingQuery) → map (λ name. name.now) l.names ≡ map name_of pending → map (wait_read (λ name. name.now)) l.waits.items ≡ map (wait_named pending) (take l.fall-index l.falls)
