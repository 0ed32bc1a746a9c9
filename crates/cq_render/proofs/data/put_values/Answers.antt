use Rattle.std.proofs.Common.{◌+◌, drop, ap, arith}
use Rattle.json.specs.Tree.{json_tokens}
use Rattle.cq_render.specs.Json.{value_json}
use Rattle.cq_render.proofs.Pieces.{read_at, nothing_left}
use Rattle.cq_render.proofs.Arrays.{listed, listed_at, put_array}
use Rattle.cq_render.proofs.Pages.{put_on}
use Rattle.cq_render.proofs.data.put_values.Goals as goal

pub loop-value-preserved : goal.loop-value-preserved
loop-value-preserved g c =
    let i = c.loop-value.value-index in
    let values = c.args.values.now in
    let item = c.value-item.result in
    put_on c.loop-value.sheet c.put_value.new.sheet (json_tokens (value_json item)) _ (listed value_json (drop (i + 1) values)) _
    (listed_at value_json values i item (read_at values i item (omega arith) c.value-item.is)) c.loop-value.invariant c.in_ok-put_value.ensures

pub returns : goal.returns
returns g c =
    put_array _ _ c.loop-value.sheet c.end_array.new.self _ (listed value_json (drop c.loop-value.value-index c.args.values.now)) c.end_array.result
    c.in_ok-begin_array.ensures c.loop-value.invariant (ap (listed value_json) (nothing_left c.args.values.now c.loop-value.value-index (omega arith))) c.end_array.ensures
