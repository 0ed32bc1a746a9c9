use Rattle.std.proofs.Common.{◌≡◌, List, map, take}
use Rattle.cq_board.specs.Pool.{PendingQuery, name_of}
use Rattle.cq_board.specs.Near.{miss_named, miss_read}
use Rattle.cq_board.proofs.near.named.Given as goal

-- the misses so far have their names
abbrev pub invariant-loop-miss : goal.invariant-loop-miss
invariant-loop-miss g l =
    (pending : List PendingQuery) → map (λ name. name.now) l.names ≡ map name_of pending → map (miss_read (λ name. name.now)) l.near.items ≡ map (miss_named pending) (take l.miss-index l.found)
