use Rattle.std.proofs.Common.{◌+◌, ℕ, List, drop, ap, arith}
use Rattle.std.specs.Prelude.{string_bytes}
use Rattle.cq_board.specs.Named.{matched_named}
use Rattle.cq_board.proofs.CallerLemmas.{pieces_at, read_at}
use Rattle.cq_render.proofs.CallerLemmas.{nothing_left, put_on, put_end}
use Rattle.cq_going.specs.Reasons.{barred_line, barred_lines}
use Rattle.cq_going.proofs.reasons.put_all_barred.Goals as goal

pub loop-name-preserved : goal.loop-name-preserved
loop-name-preserved g c =
    let i = c.loop-name.name-index in
    let names = c.args.names.now in
    let name = c.name-item.result in
    let f : List ℕ → List ℕ = λ name. barred_line name (matched_named name c.args.board.now) in
    put_on (string_bytes c.loop-name.page) (string_bytes c.put_barred.new.page) (f name) _ (barred_lines c.args.board.now (drop (i + 1) names)) _
    (pieces_at f names i name (read_at names i name c.loop-name-test.true c.name-item.is)) c.loop-name.invariant (rw c.is_matched.ensures at c.in_ok-put_barred.ensures)

pub returns : goal.returns
returns g c =
    put_end _ (barred_lines c.args.board.now (drop c.loop-name.name-index c.args.names.now)) _ (ap (barred_lines c.args.board.now) (nothing_left c.args.names.now c.loop-name.name-index (omega arith))) c.loop-name.invariant
