use Rattle.std.proofs.Common.{◌+◌, drop, ap, arith}
use Rattle.json.specs.Tree.{json_tokens}
use Rattle.cq_render.specs.Data.{standing_json}
use Rattle.cq_render.proofs.CallerLemmas.{listed, listed_at, nothing_left, put_array, put_on, read_at}
use Rattle.cq_ask.proofs.data.put_standings.Goals as goal

pub loop-name-preserved : goal.loop-name-preserved
loop-name-preserved g c =
    let i = c.loop-name.name-index in
    let names = c.args.names.now in
    let name = c.name-item.result in
    let f = standing_json c.args.board.now in
    put_on c.loop-name.sheet c.put_standing.new.sheet (json_tokens (f name)) _ (listed f (drop (i + 1) names)) _
    (listed_at f names i name (read_at names i name c.loop-name-test.true c.name-item.is)) c.loop-name.invariant c.in_ok-put_standing.ensures

pub returns : goal.returns
returns g c =
    let f = standing_json c.args.board.now in
    put_array _ _ c.loop-name.sheet c.end_array.new.self _ (listed f (drop c.loop-name.name-index c.args.names.now)) c.end_array.result
    c.in_ok-begin_array.ensures c.loop-name.invariant (ap (listed f) (nothing_left c.args.names.now c.loop-name.name-index (omega arith))) c.end_array.ensures
