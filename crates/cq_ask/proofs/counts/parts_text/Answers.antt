use Rattle.std.proofs.Common.{◌+◌, ◌++◌, ◌∙◌, ℕ, List, drop, ap, arith}
use Rattle.std.specs.Prelude.{string_bytes}
use Rattle.std.specs.List.{flat_map}
use Rattle.cq_render.proofs.CallerLemmas.{nothing_left, put_on, put_end}
use Rattle.cq_ask.specs.Answer.{part_bytes}
use Rattle.cq_ask.proofs.Counted.{part_at}
use Rattle.cq_ask.proofs.counts.parts_text.Goals as goal

pub loop-part-preserved : goal.loop-part-preserved
loop-part-preserved g c =
    let i = c.loop-part.part-index in
    let parts = c.args.parts.now in
    put_on (string_bytes c.loop-part.page) (string_bytes c.put_part.new.page) _ _ (flat_map part_bytes (drop (i + 1) parts)) _
    (part_at part_bytes parts i _ c.loop-part-test.true) c.loop-part.invariant c.in_ok-put_part.ensures

pub returns : goal.returns
returns g c =
    put_end _ (flat_map part_bytes (drop c.loop-part.part-index c.args.parts.now)) _ (ap (flat_map part_bytes) (nothing_left c.args.parts.now c.loop-part.part-index (omega arith))) c.loop-part.invariant
    ∙ ap (λ (bytes : List ℕ). bytes ++ flat_map part_bytes c.args.parts.now) c.new-page.ensures.bytes
