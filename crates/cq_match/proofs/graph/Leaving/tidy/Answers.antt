use Rattle.std.proofs.Common.{◌≡◌, rules, Bool, inr, ap, filter, ◌∙◌}
use Rattle.std.proofs.lemmas.Fn.{filter_same}
use Rattle.cq_match.specs.declared.graph.Out.{Out}
use Rattle.cq_match.specs.Steps.Kept.{is_live}
use Rattle.cq_match.proofs.graph.Leaving.tidy.Goals as goal

pub returns-then-len-self : goal.returns-then-len-self
returns-then-len-self g c =
    let live : Out → Bool = is_live c.args.places.now in
    let kept : c.retain.new.self.items ≡ filter live c.self.inside.outs.items = filter_same _ _ _ (λ x b f' k. search rules) _ _ c.retain.ensures.filtered in
    inr (kept ∙ ap (filter live) c.self.view_is)
