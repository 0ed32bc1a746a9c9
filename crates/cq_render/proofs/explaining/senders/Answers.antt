use Rattle.std.proofs.Common.{◌++◌, ◌∙◌, ◌∷◌, [], ℕ, List, map, take, get_or, sym, ap, arith}
use Rattle.std.proofs.lemmas.List.{take_all, take_more, map-append}
use Rattle.cq_atom.specs.declared.edge.Edge.{Edge}
use Rattle.cq_render.proofs.explaining.senders.Goals as goal

pub loop-edge-preserved : goal.loop-edge-preserved
loop-edge-preserved g c =
    let edges = c.args.edges.now in
    let i = c.loop-edge.edge-index in
    let none : Edge = record { provider = 0; head = 0; waiter = 0; post = 0 } in
    c.in_ok-push.ensures.items
    ∙ ap (λ (numbers : List ℕ). numbers ++ (get_or edges i none).provider ∷ []) c.loop-edge.invariant
    ∙ sym (ap (map (λ edge. edge.provider)) (take_more edges i none c.loop-edge-test.true) ∙ map-append (λ edge. edge.provider) (take i edges) (get_or edges i none ∷ []))

pub returns : goal.returns
returns g c =
    c.loop-edge.invariant ∙ ap (map (λ edge. edge.provider)) (take_all c.loop-edge.edge-index c.args.edges.now (omega arith))
