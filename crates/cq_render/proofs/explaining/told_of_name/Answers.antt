use Rattle.std.proofs.Common.{◌≡◌, ◌∙◌, true, None, Some, sym}
use Rattle.cq_board.specs.Board.{is_matched_at, place_of}
use Rattle.cq_board.specs.Waiting.{is_waiting}
use Rattle.cq_render.proofs.Explained.{placed}
use Rattle.cq_render.proofs.explaining.told_of_name.Goals as goal

pub waiting_words-requires-clause-there : goal.waiting_words-requires-clause-there
waiting_words-requires-clause-there g c = sym c.number_of.ensures ∙ c.in-Some.is

pub unreachable-requires : goal.unreachable-requires
unreachable-requires g c =
    let pool = c.args.fallen.now.listing.now.board.now in
    let name = c.args.name.now in
    let on : is_waiting name pool ≡ true = sym c.is_waiting.ensures ∙ c.if-not-is_waiting.false in
    let there = placed (place_of name pool.pending) (is_matched_at pool) on in
    let never : None ≡ Some there.0 = sym c.in-None.is ∙ c.number_of.ensures ∙ there.1 in
    cc
