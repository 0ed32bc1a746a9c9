use Rattle.std.proofs.Common.{◌≡◌, ◌+◌, ◌≤◌, Bool, false, [], ◌∷◌, ◌++◌, List, length, refl, ap, ◌∙◌, arith, vec_capacity}
use Rattle.std.proofs.lemmas.List.{length-append}
use Rattle.cq_match.specs.declared.graph.Place.{Place}
use Rattle.cq_match.specs.Steps.Kept.{free}
use Rattle.cq_match.proofs.Growing.{grown-kept, grown-nodes, grown-edges, grown-marked}
use Rattle.cq_match.proofs.matcher.grow.Goals as goal

pub returns : goal.returns
returns g c =
    let i = c.args.graph.now in
    let m = c.args.marks.now in
    let r = c.reserve_place.ensures in
    let r2 = c.reserve_place-2.ensures in
    let places : c.push_reserved.new.self.items ≡ i.places.items ++ free ∷ [] = c.push_reserved.ensures.items ∙ ap (λ (xs : List Place). xs ++ free ∷ []) r.places in
    let leaving : c.push_reserved-2.new.self.items ≡ i.leaving.items ++ [] ∷ [] = rw (c.push_reserved-2.ensures.items, r.leaving, c.new.ensures) refl in
    let totals : c.push_reserved-3.new.self.items ≡ i.totals.items ++ [] ∷ [] = rw (c.push_reserved-3.ensures.items, r.totals, c.none.ensures) refl in
    let matched : c.push_reserved-4.new.self.items ≡ m.matched.items ++ false ∷ [] = c.push_reserved-4.ensures.items ∙ ap (λ (xs : List Bool). xs ++ false ∷ []) r2.matched in
    let raised : c.push_reserved-5.new.self.items ≡ m.raised.items ++ false ∷ [] = c.push_reserved-5.ensures.items ∙ ap (λ (xs : List Bool). xs ++ false ∷ []) r2.raised in
    let counts : c.push_reserved-6.new.self.items ≡ m.counts.items ++ [] ∷ [] = rw (c.push_reserved-6.ensures.items, r2.counts, c.none-2.ensures) refl in
    let after = c.reserve_place-2.new.self.waiting in
    let room : length i.places.items + 1 ≤ vec_capacity after =
    let len = c.len.ensures in let same = ap length r.places in let ok = c.in_ok-reserve_place-2.ensures.waiting_room in omega (arith, c.reserve_place.new.self.places.ok.0) in
    record {
      kept = λ number next k. rw (places, leaving, totals, matched, raised, counts, r2.waiting, r2.reached)
          (grown-kept i.places.items i.leaving.items i.totals.items m.matched.items m.raised.items m.counts.items m.waiting.items m.reached.items (vec_capacity m.waiting) (vec_capacity after) number next k room);
      nodes = rw places (grown-nodes i.places.items 0);
      edges = rw (places, leaving) (grown-edges i.places.items i.leaving.items);
      matched = rw matched (grown-marked m.matched.items 0);
      longer = rw places (length-append i.places.items (free ∷ []));
    }
