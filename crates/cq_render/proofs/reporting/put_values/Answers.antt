use Rattle.std.proofs.Common.{◌≡◌, ◌++◌, List, map, subst, ap, ◌∙◌}
use Rattle.std.specs.Prelude.{string_bytes}
use Rattle.std.specs.List.{flat_map}
use Rattle.cq_atom.specs.Value.{ValueContent}
use Rattle.cq_render.specs.Report.{values_line}
use Rattle.cq_render.proofs.Pages.{put_on, put_end}
use Rattle.cq_render.proofs.reporting.put_values.Goals as goal

pub loop-values-init : goal.loop-values-init
loop-values-init g c =
    ap (λ (lists : List (List ValueContent)). string_bytes c.args.page.now ++ flat_map values_line lists) (ap (map (λ values. values.items)) c.into_iter-values-iterator.ensures.into_iter_gives ∙ c.list-values-items.ensures.value)

pub loop-values-preserved : goal.loop-values-preserved
loop-values-preserved g c =
    let item = c.in-Some.values.now in
    let put = subst (λ (values : List ValueContent). string_bytes c.put_grounding.new.page ≡ string_bytes c.loop-values.page ++ values_line values) c.deref.ensures.value c.in_ok-put_grounding.ensures in
    put_on (string_bytes c.loop-values.page) (string_bytes c.put_grounding.new.page) (values_line item.items) (flat_map values_line (map (λ values. values.items) c.loop-values.values-iterator)) (flat_map values_line (map (λ values. values.items) c.next.new.self)) _
    (ap (λ lists. flat_map values_line (map (λ values. values.items) lists)) c.in-Some.ensures.steps) c.loop-values.invariant put

pub returns : goal.returns
returns g c =
    put_end (string_bytes c.loop-values.page) (flat_map values_line (map (λ values. values.items) c.loop-values.values-iterator)) _
    (ap (λ lists. flat_map values_line (map (λ values. values.items) lists)) c.in-None.ensures.steps.0) c.loop-values.invariant
