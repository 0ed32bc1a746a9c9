use Rattle.std.proofs.Common.{◌≡◌, map, filter, take}
use Rattle.cq_board.specs.Waiting.{is_waiting}
use Rattle.cq_render.proofs.explaining.waiting.Given as goal

-- the names so far under which queries wait
abbrev pub invariant-loop-name : goal.invariant-loop-name
invariant-loop-name g l = map (λ name. name.now) l.waiting.items ≡ filter (λ name. is_waiting name l.board) (map (λ name. name.now) (take l.name-index l.names))
