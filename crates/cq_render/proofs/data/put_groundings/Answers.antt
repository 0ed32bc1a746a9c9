use Rattle.std.proofs.Common.{◌≡◌, ◌++◌, List, map, subst, ap, ◌∙◌}
use Rattle.json.specs.Tree.{json_tokens}
use Rattle.cq_atom.specs.Value.{ValueContent}
use Rattle.cq_render.specs.Json.{grounding_json}
use Rattle.cq_render.proofs.Arrays.{listed, put_array}
use Rattle.cq_render.proofs.Pages.{put_on}
use Rattle.cq_render.proofs.data.put_groundings.Goals as goal

pub loop-values-init : goal.loop-values-init
loop-values-init g c =
    ap (λ (lists : List (List ValueContent)). c.begin_array.new.self ++ listed grounding_json lists) (ap (map (λ values. values.items)) c.into_iter-values-iterator.ensures.into_iter_gives ∙ c.list-values-items.ensures.value)

pub loop-values-preserved : goal.loop-values-preserved
loop-values-preserved g c =
    let more = c.next.new.self in
    let item = c.in-Some.values.now in
    let put = subst (λ (values : List ValueContent). c.put_values.new.sheet ≡ c.loop-values.sheet ++ json_tokens (grounding_json values)) c.deref.ensures.value c.in_ok-put_values.ensures in
    put_on c.loop-values.sheet c.put_values.new.sheet (json_tokens (grounding_json item.items)) (listed grounding_json (map (λ values. values.items) c.loop-values.values-iterator)) (listed grounding_json (map (λ values. values.items) more)) _
    (ap (λ lists. listed grounding_json (map (λ values. values.items) lists)) c.in-Some.ensures.steps) c.loop-values.invariant put

pub returns : goal.returns
returns g c =
    put_array _ _ c.loop-values.sheet c.end_array.new.self _ (listed grounding_json (map (λ values. values.items) c.loop-values.values-iterator)) c.end_array.result
    c.in_ok-begin_array.ensures c.loop-values.invariant (ap (λ lists. listed grounding_json (map (λ values. values.items) lists)) c.in-None.ensures.steps.0) c.end_array.ensures
