use Rattle.std.proofs.Common.{ℕ, List, subst}
use Rattle.cq_index.specs.Steps.Keys.{KeyContent, key_of, open_of}
use Rattle.cq_index.specs.Steps.Buckets.{Adds, holds}
use Rattle.cq_index.proofs.Joined.{joins}
use Rattle.cq_index.proofs.index.beside.Goals as goal

pub returns : goal.returns
returns g c =
    let buckets = c.args.buckets.now.entries in
    let between = c.add_places.new.places.items in
    joins c.add_places-2.new.places.items between (holds buckets (key_of c.args.atom.now)) (holds buckets (open_of c.args.atom.now))
    (subst (λ (old : List ℕ). Adds old (holds buckets (key_of c.args.atom.now)) between) c.new-places.ensures.items
    (subst (λ (k : KeyContent). Adds c.new-places.result.items (holds buckets k) between) c.asked_of.ensures c.in_ok-add_places.ensures))
    (subst (λ (k : KeyContent). Adds between (holds buckets k) c.add_places-2.new.places.items) c.asked_of-2.ensures c.in_ok-add_places-2.ensures)
