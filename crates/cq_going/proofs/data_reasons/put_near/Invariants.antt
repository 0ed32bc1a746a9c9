use Rattle.std.proofs.Common.{◌≡◌, map, drop}
use Rattle.std.specs.Prelude.{filter}
use Rattle.cq_board.specs.Named.{link_read}
use Rattle.cq_going.specs.Reasons.{leads_there}
use Rattle.cq_going.specs.Data.{first_json}
use Rattle.cq_going.proofs.data_reasons.put_near.Given as goal

-- of the links so far none leads there
abbrev pub invariant-loop-link : goal.invariant-loop-link
invariant-loop-link g l =
    (l.sheet ≡ l.initial.sheet)
    × (first_json l.board (filter (leads_there l.board l.name l.post) (map (link_read (λ n. n.now)) (drop l.link-index l.links))) ≡ first_json l.board (filter (leads_there l.board l.name l.post) (map (link_read (λ n. n.now)) l.links)))
