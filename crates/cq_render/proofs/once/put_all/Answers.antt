use Rattle.std.proofs.Common.{◌≡◌, ℕ, ◌<◌, length, subst, sym}
use Rattle.std.specs.List.{All}
use Rattle.cq_match.specs.declared.falls.Fall.{Fall}
use Rattle.cq_board.specs.Pool.{PoolRecord}
use Rattle.cq_render.specs.Steps.Walking.{shown_read}
use Rattle.cq_render.proofs.Walked.{as_many, names_of_shown}
use Rattle.cq_render.proofs.Numbers.{falls_low}
use Rattle.cq_render.proofs.once.put_all.Goals as goal

pub put_lines-requires : goal.put_lines-requires
put_lines-requires g c =
    let looked = c.args.looked.now in
    let pool = looked.listing.board.now in
    let listing = c.fallen_of.result.listing.now in
    let items = listing.queries.items in
    let many : length items ≡ length listing.board.now.pending = as_many (λ shown. shown.name.now) items listing.board.now.pending (names_of_shown shown_read items listing.board.now listing.walked) in
    subst (All (λ (fall : Fall). fall.node < length items)) (sym c.deref.ensures.value)
    (subst (λ (n : ℕ). All (λ (fall : Fall). fall.node < n) looked.falls.items) (sym many)
    (subst (λ (p : PoolRecord). All (λ (fall : Fall). fall.node < length p.pending) looked.falls.items) (sym c.fallen_of.ensures.board) (falls_low pool looked.falls.items c.requires)))

pub returns : goal.returns
returns g c empty = rw (c.fallen_of.ensures.board, c.deref.ensures.value) at (c.put_lines.ensures empty)
