use Rattle.std.proofs.Common.{◌≡◌, ◌++◌, ◌+◌, ℕ, List, drop, ap, subst, arith}
use Rattle.std.specs.Prelude.{string_bytes}
use Rattle.std.specs.List.{flat_map}
use Rattle.cq_board.proofs.CallerLemmas.{pieces_at, read_at}
use Rattle.cq_render.specs.Report.{block_of}
use Rattle.cq_render.proofs.CallerLemmas.{nothing_left, put_on, put_end}
use Rattle.cq_ask.proofs.answering.put_blocks.Goals as goal

pub loop-name-preserved : goal.loop-name-preserved
loop-name-preserved g c =
    let i = c.loop-name.name-index in
    let names = c.args.names.now in
    let name = c.name-item.result in
    let f = block_of c.args.board.now in
    let put = subst (λ (n : List ℕ). string_bytes c.put_block.new.page ≡ string_bytes c.loop-name.page ++ f n) c.as_str.ensures.bytes c.in_ok-put_block.ensures in
    put_on (string_bytes c.loop-name.page) (string_bytes c.put_block.new.page) (f name) _ (flat_map f (drop (i + 1) names)) _
    (pieces_at f names i name (read_at names i name c.loop-name-test.true c.name-item.is)) c.loop-name.invariant put

pub returns : goal.returns
returns g c =
    let f = block_of c.args.board.now in
    put_end _ (flat_map f (drop c.loop-name.name-index c.args.names.now)) _ (ap (flat_map f) (nothing_left c.args.names.now c.loop-name.name-index (omega arith))) c.loop-name.invariant
