use Rattle.std.proofs.Common.{◌<◌, ℕ, length, take, get_or, refl}
use Rattle.std.proofs.lemmas.List.{take_more}
use Rattle.std.proofs.lemmas.List.Elements.{All-contains, All-take}
use Rattle.cq_groups.proofs.Labels.{no_edges, more_labels}
use Rattle.cq_groups.proofs.join_all.Goals as goal

pub loop-edge-init : goal.loop-edge-init
loop-edge-init c = no_edges (length c.args.labels.now) c.args.labels.now refl c.requires.each

pub loop-edge-preserved : goal.loop-edge-preserved
loop-edge-preserved c =
    let edges = c.args.edges.now in
    let count = length c.args.labels.now in
    let i = c.loop-edge.edge-index in
    let d : ℕ × ℕ = (0, 0) in
    let before = take i edges in
    let edge = get_or edges i d in
    let more = more_labels before edge count c.loop-edge.labels c.loop-edge.invariant
    (λ a b at. (All-contains (λ (e : ℕ × ℕ). e.0 < count) before (a, b) (All-take (λ (e : ℕ × ℕ). e.0 < count) i edges c.requires.one) at, All-contains (λ (e : ℕ × ℕ). e.1 < count) before (a, b) (All-take (λ (e : ℕ × ℕ). e.1 < count) i edges c.requires.other) at))
    (c.requires.one i d c.loop-edge-test.true) (c.requires.other i d c.loop-edge-test.true) in
    rw (take_more edges i d c.loop-edge-test.true, c.join.ensures) more
