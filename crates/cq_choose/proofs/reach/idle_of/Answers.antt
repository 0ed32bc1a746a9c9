use Rattle.std.proofs.Common.{◌∙◌, ◌++◌, ◌∷◌, [], Bool, false, List, get_or, map, sym, ap}
use Rattle.std.specs.Prelude.{not}
use Rattle.std.proofs.lemmas.List.{map_more, take_all}
use Rattle.cq_choose.proofs.reach.idle_of.Goals as goal

pub loop-is_reached-preserved : goal.loop-is_reached-preserved
loop-is_reached-preserved g c =
    let reached = c.args.reached.now in
    let i = c.loop-is_reached.is_reached-index in
    c.in_ok-push.ensures.items ∙ ap (λ (l : List Bool). l ++ not (get_or reached i false) ∷ []) c.loop-is_reached.invariant ∙ sym (map_more not reached i false c.loop-is_reached-test.true)

pub returns : goal.returns
returns g c = c.loop-is_reached.invariant ∙ ap (map not) (take_all c.loop-is_reached.is_reached-index c.args.reached.now c.loop-is_reached-test.false)
