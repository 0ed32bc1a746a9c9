use Rattle.std.proofs.Common.{◌≡◌, ℕ, ◌++◌, ◌∷◌, [], length, replicate, ap, ◌∙◌}
use Rattle.cq_match.specs.Steps.Places.{slots_at}
use Rattle.cq_match.proofs.Slots.{slots-more}
use Rattle.cq_match.proofs.matched.slots_of.Goals as goal

pub loop-place-preserved : goal.loop-place-preserved
loop-place-preserved g c =
    let starts = c.loop-place.starts.items in
    let owners = c.loop-place.owners.items in
    let i = c.loop-place.place in
    let ranked = c.args.ranked.now in
    let started : c.push.new.self.items ≡ starts ++ length owners ∷ [] = c.in_ok-push.ensures.items ∙ ap (λ (n : ℕ). starts ++ n ∷ []) (c.len.ensures ∙ c.loop-place.owners.ok.0) in
    let owned : c.add_slots.new.owners.items ≡ owners ++ replicate (slots_at ranked i) i = c.in_ok-add_slots.ensures ∙ ap (λ n. owners ++ replicate n i) c.slots_of_node.ensures in
    rw (started, owned) (slots-more ranked i starts owners c.loop-place-test.true c.loop-place.invariant)
