use Rattle.std.proofs.Common.{◌+◌, ℕ, List, drop, ap, arith}
use Rattle.std.specs.Prelude.{string_bytes}
use Rattle.cq_board.specs.Named.{matched_named}
use Rattle.cq_board.proofs.CallerLemmas.{pieces_at, read_at}
use Rattle.cq_ask.specs.Answer.{absent_line, absent_lines}
use Rattle.cq_render.proofs.CallerLemmas.{nothing_left, put_on, put_end}
use Rattle.cq_ask.proofs.answering.put_absent.Goals as goal

pub loop-name-preserved : goal.loop-name-preserved
loop-name-preserved g c =
    let i = c.loop-name.name-index in
    let names = c.args.names.now in
    let name = c.name-item.result in
    let f : List ℕ → List ℕ = λ name. absent_line name (matched_named name c.args.board.now) in
    put_on (string_bytes c.loop-name.page) (string_bytes c.put_if_absent.new.page) (f name) _ (absent_lines c.args.board.now (drop (i + 1) names)) _
    (pieces_at f names i name (read_at names i name c.loop-name-test.true c.name-item.is)) c.loop-name.invariant c.in_ok-put_if_absent.ensures

pub returns : goal.returns
returns g c =
    put_end _ (absent_lines c.args.board.now (drop c.loop-name.name-index c.args.names.now)) _ (ap (absent_lines c.args.board.now) (nothing_left c.args.names.now c.loop-name.name-index (omega arith))) c.loop-name.invariant
