use Rattle.std.proofs.Common.{◌+◌, map, drop, ap, arith}
use Rattle.json.specs.Json.{string}
use Rattle.cq_render.proofs.Pieces.{nothing_left}
use Rattle.cq_render.proofs.Arrays.{listed, listed_next, put_array}
use Rattle.cq_render.proofs.Pages.{put_on}
use Rattle.cq_render.proofs.reasons.put_names.Goals as goal

pub loop-name-preserved : goal.loop-name-preserved
loop-name-preserved g c =
    let i = c.loop-name.name-index in
    let names = c.args.names.now in
    put_on c.loop-name.sheet c.string.new.self _ _ (listed string (map (λ name. name.now) (drop (i + 1) names))) _
    (listed_next string (λ name. name.now) names i _ c.loop-name-test.true) c.loop-name.invariant c.in_ok-string.ensures

pub returns : goal.returns
returns g c =
    put_array _ _ c.loop-name.sheet c.end_array.new.self _ (listed string (map (λ name. name.now) (drop c.loop-name.name-index c.args.names.now))) c.end_array.result
    c.in_ok-begin_array.ensures c.loop-name.invariant (ap (λ left. listed string (map (λ name. name.now) left)) (nothing_left c.args.names.now c.loop-name.name-index (omega arith))) c.end_array.ensures
