use Rattle.std.proofs.Common.{◌≡◌, ◌∙◌, true, false, None, Some, sym}
use Rattle.cq_board.specs.Board.{is_matched_at, place_of}
use Rattle.cq_board.specs.Named.{matched_named}
use Rattle.cq_board.specs.Waiting.{is_waiting}
use Rattle.cq_render.specs.Data.{IsWhyJson, standing_json}
use Rattle.cq_render.proofs.Explained.{placed}
use Rattle.cq_render.proofs.Telling.{put_so, why_settled}
use Rattle.cq_render.proofs.reasons.put_why.Goals as goal

pub put_waiting-requires-clause-there : goal.put_waiting-requires-clause-there
put_waiting-requires-clause-there g c = sym c.number_of.ensures ∙ c.in-Some.is

pub unreachable-requires : goal.unreachable-requires
unreachable-requires g c =
    let pool = c.args.fallen.now.listing.now.board.now in
    let name = c.args.name.now in
    let on : is_waiting name pool ≡ true = sym c.is_waiting.ensures ∙ c.if-not-is_waiting.false in
    let there = placed (place_of name pool.pending) (is_matched_at pool) on in
    let never : None ≡ Some there.0 = sym c.in-None.is ∙ c.number_of.ensures ∙ there.1 in
    cc

pub returns-then-not-is_waiting : goal.returns-then-not-is_waiting
returns-then-not-is_waiting g c =
    let pool = c.args.fallen.now.listing.now.board.now in
    let name = c.args.name.now in
    let off : is_waiting name pool ≡ false = sym c.is_waiting.ensures ∙ c.if-not-is_waiting.true in
    put_so (IsWhyJson pool name) (standing_json pool name) c.args.sheet.now c.put_standing.new.sheet c.put_standing.result (why_settled (matched_named name pool) pool name off) c.put_standing.ensures
