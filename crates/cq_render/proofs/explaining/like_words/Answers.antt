use Rattle.std.proofs.Common.{◌≡◌, List, ℕ, subst, sym, ap}
use Rattle.std.specs.Prelude.{string_bytes, IfOk}
use Rattle.cq_board.specs.Board.{name_or_none}
use Rattle.cq_render.proofs.Walked.{name_read, names_of_shown}
use Rattle.cq_render.specs.Steps.Walking.{shown_read}
use Rattle.cq_render.specs.Explain.{near_words}
use Rattle.cq_render.proofs.explaining.like_words.Goals as goal

pub returns : goal.returns
returns g c =
    let listing = c.args.listing.now in
    let pending = listing.board.now.pending in
    let items = listing.queries.items in
    let like = c.args.like in
    let named = sym (ap name_or_none (name_read (λ shown. shown.name.now) items pending (names_of_shown shown_read items listing.board.now listing.walked) like.1 c.index.result.now c.requires c.index.ensures)) in
    subst (λ (name : List ℕ). IfOk c.near_words.result (λ text. string_bytes text ≡ near_words pending name like.2)) named c.near_words.ensures
