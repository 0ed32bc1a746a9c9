use Rattle.std.proofs.Common.{◌+◌, drop, ap, arith}
use Rattle.json.specs.Tree.{json_tokens}
use Rattle.cq_render.specs.Json.{term_json}
use Rattle.cq_render.proofs.Pieces.{read_at, nothing_left}
use Rattle.cq_render.proofs.Arrays.{listed, listed_at, put_array}
use Rattle.cq_render.proofs.Pages.{put_on}
use Rattle.cq_render.proofs.data.put_terms.Goals as goal

pub loop-term-preserved : goal.loop-term-preserved
loop-term-preserved g c =
    let i = c.loop-term.term-index in
    let terms = c.args.terms.now in
    let item = c.term-item.result in
    put_on c.loop-term.sheet c.put_term.new.sheet (json_tokens (term_json item)) _ (listed term_json (drop (i + 1) terms)) _
    (listed_at term_json terms i item (read_at terms i item (omega arith) c.term-item.is)) c.loop-term.invariant c.in_ok-put_term.ensures

pub returns : goal.returns
returns g c =
    put_array _ _ c.loop-term.sheet c.end_array.new.self _ (listed term_json (drop c.loop-term.term-index c.args.terms.now)) c.end_array.result
    c.in_ok-begin_array.ensures c.loop-term.invariant (ap (listed term_json) (nothing_left c.args.terms.now c.loop-term.term-index (omega arith))) c.end_array.ensures
