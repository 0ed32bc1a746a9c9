use Rattle.std.proofs.Common.{◌≡◌, map, filter, take}
use Rattle.cq_match.specs.Matched.{is_matched}
use Rattle.cq_board.proofs.views.matched_of.Given as goal

-- the names so far are those of the seats so far whose places are matched
abbrev pub invariant-loop-seat : goal.invariant-loop-seat
invariant-loop-seat g l = map (λ name. name.now) l.names.items ≡ map (λ s. s.now.name) (filter (λ s. is_matched l.matcher.nodes l.matcher.edges s.now.place) (take l.seat-index l.seats))
