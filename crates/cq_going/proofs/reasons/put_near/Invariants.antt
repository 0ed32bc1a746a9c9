use Rattle.std.proofs.Common.{◌≡◌, map, drop}
use Rattle.cq_board.specs.Named.{link_read}
use Rattle.cq_going.specs.Reasons.{near_words}
use Rattle.cq_going.proofs.reasons.put_near.Given as goal

-- of the links so far none leads there
abbrev pub invariant-loop-link : goal.invariant-loop-link
invariant-loop-link g l =
    (l.page ≡ l.initial.page) × (near_words l.board l.name l.post (map (link_read (λ n. n.now)) (drop l.link-index l.links)) ≡ near_words l.board l.name l.post (map (link_read (λ n. n.now)) l.links))
