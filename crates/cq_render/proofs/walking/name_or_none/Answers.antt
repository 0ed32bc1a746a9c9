use Rattle.std.proofs.Common.{◌≡◌, ◌∙◌, map, sym, ap}
use Rattle.cq_board.specs.Pool.{name_of}
use Rattle.cq_board.specs.Board.{name_or_none}
use Rattle.cq_render.specs.Steps.Walking.{shown_read}
use Rattle.cq_render.proofs.Walked.{name_read, name_past, names_of_shown}
use Rattle.cq_render.proofs.walking.name_or_none.Goals as goal

pub returns-in-Some : goal.returns-in-Some
returns-in-Some g c =
    let listing = c.args.listing.now in
    let named : map (λ shown. shown.name.now) c.deref.result.now ≡ map name_of listing.board.now.pending = rw c.deref.ensures.value (names_of_shown shown_read listing.queries.items listing.board.now listing.walked) in
    c.as_str.ensures.bytes
    ∙ sym (ap name_or_none (name_read (λ shown. shown.name.now) c.deref.result.now listing.board.now.pending named c.args.number c.in-Some.shown.now c.in-Some.ensures.lookup.3.0 c.in-Some.ensures.lookup.1))

pub returns-in-None : goal.returns-in-None
returns-in-None g c =
    let listing = c.args.listing.now in
    let named : map (λ shown. shown.name.now) c.deref.result.now ≡ map name_of listing.board.now.pending = rw c.deref.ensures.value (names_of_shown shown_read listing.queries.items listing.board.now listing.walked) in
    sym (ap name_or_none (name_past (λ shown. shown.name.now) c.deref.result.now listing.board.now.pending named c.args.number c.in-None.ensures.lookup.3))
