use Rattle.std.proofs.Common.{◌+◌, drop, ap, arith}
use Rattle.std.specs.Prelude.{string_bytes}
use Rattle.std.specs.List.{flat_map}
use Rattle.cq_board.proofs.CallerLemmas.{pieces_at, read_at}
use Rattle.cq_render.proofs.CallerLemmas.{nothing_left, put_on, put_end}
use Rattle.cq_going.specs.Going.{offer_lines}
use Rattle.cq_going.proofs.listing.put_all_offers.Goals as goal

pub loop-choice-preserved : goal.loop-choice-preserved
loop-choice-preserved g c =
    let i = c.loop-choice.choice-index in
    let choices = c.args.choices.now in
    let choice = c.choice-item.result in
    let pending = c.args.board.now.pending in
    put_on (string_bytes c.loop-choice.page) (string_bytes c.put_offers.new.page) (offer_lines pending choice) _ (flat_map (offer_lines pending) (drop (i + 1) choices)) _
    (pieces_at (offer_lines pending) choices i choice (read_at choices i choice c.loop-choice-test.true c.choice-item.is)) c.loop-choice.invariant c.in_ok-put_offers.ensures

pub returns : goal.returns
returns g c =
    put_end _ (flat_map (offer_lines c.args.board.now.pending) (drop c.loop-choice.choice-index c.args.choices.now)) _
    (ap (flat_map (offer_lines c.args.board.now.pending)) (nothing_left c.args.choices.now c.loop-choice.choice-index (omega arith))) c.loop-choice.invariant
