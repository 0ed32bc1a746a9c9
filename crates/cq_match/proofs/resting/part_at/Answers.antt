use Rattle.std.proofs.Common.{◌≡◌, ℕ, ◌+◌, List, [], ◌∷◌, reverse, sym, ap, subst, ◌∙◌}
use Rattle.std.specs.BTreeSet.{insert_key}
use Rattle.std.specs.Ordering.{nat_cmp}
use Rattle.cq_match.specs.declared.falls.Fall.{Fall}
use Rattle.cq_match.specs.Steps.Resting.{IsRested, Picks, Walking, node_at}
use Rattle.cq_match.proofs.Rested.{picked-part}
use Rattle.cq_match.proofs.Tracing.{walk-starts}
use Rattle.cq_match.proofs.resting.part_at.Goals as goal

pub returns : goal.returns
returns g c =
    let edges = c.args.edges.now in
    let falls = c.args.falls.now in
    let place = c.args.place in
    let node = node_at falls place in
    let wanted = c.insert.new.self.keys in
    let keys : wanted ≡ place ∷ [] = c.in_ok-insert.ensures.keys ∙ ap (λ (ks : List ℕ). insert_key nat_cmp ks place) c.new-wanted.ensures.empty in
    let start : Walking edges falls node (place + 1) wanted (reverse c.new-part.result.items) =
    subst (λ (part : List Fall). Walking edges falls node (place + 1) wanted (reverse part)) (sym c.new-part.ensures.items) (walk-starts edges falls c.requires.parts.good place wanted c.requires.low keys) in
    picked-part edges falls node c.reverse.new.self.items
    (subst (λ (part : List Fall). Picks (IsRested edges falls node) falls part) (sym c.reverse.ensures.items) (c.in_ok-walk.ensures node start))
