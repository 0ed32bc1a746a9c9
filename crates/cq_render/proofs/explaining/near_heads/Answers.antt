use Rattle.std.proofs.Common.{◌<◌, ℕ, length, sym, subst}
use Rattle.std.specs.List.{All}
use Rattle.cq_render.specs.Steps.Walking.{shown_read}
use Rattle.cq_render.proofs.Liked.{nearest_low}
use Rattle.cq_render.proofs.Walked.{as_many, names_of_shown}
use Rattle.cq_render.proofs.explaining.near_heads.Goals as goal

pub each_like-requires : goal.each_like-requires
each_like-requires g c =
    let listing = c.args.fallen.now.listing.now in
    let pool = listing.board.now in
    let items = listing.queries.items in
    let many = as_many (λ shown. shown.name.now) items pool.pending (names_of_shown shown_read items pool listing.walked) in
    subst (All (λ (like : ℕ × ℕ × ℕ). like.1 < length items)) (sym c.deref-in-Likes.ensures.value)
    (subst (λ (n : ℕ). All (λ (like : ℕ × ℕ × ℕ). like.1 < n) c.in_ok-likes-in-Likes.likes.items) (sym many)
    (nearest_low c.args.name.now c.args.waiter c.args.post pool.pending c.in_ok-likes-in-Likes.likes.items c.in_ok-likes-in-Likes.ensures))
