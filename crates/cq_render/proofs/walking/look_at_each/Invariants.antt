use Rattle.std.proofs.Common.{◌≡◌, ◌++◌, map, drop}
use Rattle.std.specs.List.{enumerate_from}
use Rattle.cq_render.specs.Steps.Walking.{all_shown, shown_of, shown_read}
use Rattle.cq_render.proofs.walking.look_at_each.Given as goal

-- those so far and those to come are all
abbrev pub invariant-loop-number : goal.invariant-loop-number
invariant-loop-number g l = map shown_read l.queries.items ++ map (shown_of l.board) (enumerate_from l.number (drop l.number l.board.pending)) ≡ all_shown l.board
