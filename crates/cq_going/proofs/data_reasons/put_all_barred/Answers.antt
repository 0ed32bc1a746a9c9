use Rattle.std.proofs.Common.{◌+◌, ℕ, List, drop, ap, arith}
use Rattle.json.specs.Json.{Json}
use Rattle.cq_board.specs.Named.{matched_named}
use Rattle.cq_board.proofs.CallerLemmas.{read_at}
use Rattle.cq_render.proofs.CallerLemmas.{nothing_left, put_on, put_array}
use Rattle.cq_going.specs.Data.{barred_if}
use Rattle.cq_going.specs.Steps.Tokens.{items_alone}
use Rattle.cq_going.proofs.Tokens.{spread, spread_at}
use Rattle.cq_going.proofs.data_reasons.put_all_barred.Goals as goal

pub loop-name-preserved : goal.loop-name-preserved
loop-name-preserved g c =
    let i = c.loop-name.name-index in
    let names = c.args.names.now in
    let name = c.name-item.result in
    let f : List ℕ → List Json = λ name. barred_if c.args.board.now name (matched_named name c.args.board.now) in
    put_on c.loop-name.sheet c.put_barred.new.sheet (items_alone (f name)) _ (spread f (drop (i + 1) names)) _
    (spread_at f names i name (read_at names i name c.loop-name-test.true c.name-item.is)) c.loop-name.invariant c.in_ok-put_barred.ensures

pub returns : goal.returns
returns g c =
    let f : List ℕ → List Json = λ name. barred_if c.args.board.now name (matched_named name c.args.board.now) in
    put_array _ _ c.loop-name.sheet c.end_array.new.self _ (spread f (drop c.loop-name.name-index c.args.names.now)) c.end_array.result
    c.in_ok-begin_array.ensures c.loop-name.invariant (ap (spread f) (nothing_left c.args.names.now c.loop-name.name-index (omega arith))) c.end_array.ensures
