use Rattle.std.proofs.Common.{◌≡◌, map, arith, ap, ◌∙◌}
use Rattle.cq_board.specs.Pool.{name_of}
use Rattle.cq_board.proofs.Missing.{nearest-low}
use Rattle.cq_board.proofs.ViewSeats.{as-many}
use Rattle.cq_board.proofs.heads.Heads.near_misses.Goals as goal

pub named-requires : goal.named-requires
named-requires g c =
    let pending = c.args.self.now.pending in
    let kept = c.in_ok-nearest.nearest.items in
    let named : map (λ name. name.now) c.self.inside.names.items ≡ map name_of pending = c.self.invariant.named ∙ ap (λ pool. map name_of pool.pending) c.self.view_is in
    let many = as-many (λ name. name.now) c.self.inside.names.items pending named in
    rw (c.deref.ensures.value, c.deref-2.ensures.value)
    (λ k d low.
    let inside = nearest-low c.args.name.now c.args.post pending kept c.in_ok-nearest.ensures k d low in
    omega (arith, inside, many))
