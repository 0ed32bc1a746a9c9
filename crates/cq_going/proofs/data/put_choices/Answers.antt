use Rattle.std.proofs.Common.{◌+◌, drop, ap, arith}
use Rattle.json.specs.Tree.{json_tokens}
use Rattle.cq_board.proofs.CallerLemmas.{read_at}
use Rattle.cq_render.proofs.CallerLemmas.{nothing_left, put_on, listed, listed_at, put_array}
use Rattle.cq_going.specs.Data.{choice_json}
use Rattle.cq_going.proofs.data.put_choices.Goals as goal

pub loop-choice-preserved : goal.loop-choice-preserved
loop-choice-preserved g c =
    let i = c.loop-choice.choice-index in
    let choices = c.args.choices.now in
    let choice = c.choice-item.result in
    let f = choice_json c.args.board.now.pending in
    put_on c.loop-choice.sheet c.put_choice.new.sheet (json_tokens (f choice)) _ (listed f (drop (i + 1) choices)) _
    (listed_at f choices i choice (read_at choices i choice c.loop-choice-test.true c.choice-item.is)) c.loop-choice.invariant c.in_ok-put_choice.ensures

pub returns : goal.returns
returns g c =
    let f = choice_json c.args.board.now.pending in
    put_array _ _ c.loop-choice.sheet c.end_array.new.self _ (listed f (drop c.loop-choice.choice-index c.args.choices.now)) c.end_array.result
    c.in_ok-begin_array.ensures c.loop-choice.invariant (ap (listed f) (nothing_left c.args.choices.now c.loop-choice.choice-index (omega arith))) c.end_array.ensures
