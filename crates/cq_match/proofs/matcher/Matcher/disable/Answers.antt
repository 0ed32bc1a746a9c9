use Rattle.std.proofs.Common.{◌≡◌, Bool, false, [], List, set, sym, ap, ◌∙◌, subst, arith, vec_capacity}
use Rattle.std.proofs.lemmas.List.{get_or_default, length-set}
use Rattle.cq_atom.specs.declared.edge.Edge.{Edge}
use Rattle.cq_match.specs.declared.graph.Place.{Place}
use Rattle.cq_match.specs.Matcher.{MatcherRecord, with_flag}
use Rattle.cq_match.specs.Steps.Settle.{stands}
use Rattle.cq_match.specs.Steps.Kept.{free, place_at, edges_from, Counting}
use Rattle.cq_match.proofs.Rows.{taken-placed}
use Rattle.cq_match.proofs.Edges.{lost-none}
use Rattle.cq_match.proofs.Bridge.{there, exact-is, lost-is}
use Rattle.cq_match.proofs.Flags.{same-posts, same-edges, same-counting, same-kept, flagged-nodes, flagged-already, most-without}
use Rattle.cq_match.proofs.matcher.Matcher.disable.Goals as goal

pub index-requires : goal.index-requires
index-requires g c =
    let places = c.self.inside.graph.places.items in
    let low = taken-placed places c.args.node (there places c.args.node c.args.self.now (ap (λ (m : MatcherRecord). m.nodes) (sym c.self.view_is)) c.requires) in
    omega (arith, c.self.inside.graph.places.ok.0)

pub index_mut-requires : goal.index_mut-requires
index_mut-requires g c =
    let places = c.self.inside.graph.places.items in
    let low = taken-placed places c.args.node (there places c.args.node c.args.self.now (ap (λ (m : MatcherRecord). m.nodes) (sym c.self.view_is)) c.requires) in
    omega (arith, c.self.inside.graph.places.ok.0)

pub fell-requires-clause-counting : goal.fell-requires-clause-counting
fell-requires-clause-counting g c =
    let places = c.self.inside.graph.places.items in
    let leaving = c.self.inside.graph.leaving.items in
    let node = c.args.node in
    let low = taken-placed places node (there places node c.args.self.now (ap (λ (m : MatcherRecord). m.nodes) (sym c.self.view_is)) c.requires) in
    let place : c.index_mut.result.now ≡ place_at places node = c.index_mut.ensures.value ∙ get_or_default places node c.index_mut.result.now free low in
    let k = c.self.invariant in
    let marks = c.self.inside.marks in
    rw place (rw (same-edges places node false low leaving) (same-counting places node false low (edges_from places 0 leaving) marks.matched.items marks.counts.items []
    (subst (λ (bs : List Bool). Counting places (edges_from places 0 leaving) bs marks.counts.items []) k.settled.same k.settled.counting)))

pub fell-requires-clause-fed : goal.fell-requires-clause-fed
fell-requires-clause-fed g c =
    let places = c.self.inside.graph.places.items in
    let leaving = c.self.inside.graph.leaving.items in
    let node = c.args.node in
    let low = taken-placed places node (there places node c.args.self.now (ap (λ (m : MatcherRecord). m.nodes) (sym c.self.view_is)) c.requires) in
    let place : c.index_mut.result.now ≡ place_at places node = c.index_mut.ensures.value ∙ get_or_default places node c.index_mut.result.now free low in
    let k = c.self.invariant in
    rw place (rw (same-edges places node false low leaving) (λ n j up inside. k.settled.closed.fed n j up (let posts = same-posts places node false low n in omega arith)))

pub fell-requires-clause-most : goal.fell-requires-clause-most
fell-requires-clause-most g c =
    let places = c.self.inside.graph.places.items in
    let leaving = c.self.inside.graph.leaving.items in
    let node = c.args.node in
    let low = taken-placed places node (there places node c.args.self.now (ap (λ (m : MatcherRecord). m.nodes) (sym c.self.view_is)) c.requires) in
    let place : c.index_mut.result.now ≡ place_at places node = c.index_mut.ensures.value ∙ get_or_default places node c.index_mut.result.now free low in
    let k = c.self.invariant in
    rw place (rw (same-edges places node false low leaving) (most-without places node low (edges_from places 0 leaving) c.self.inside.marks.matched.items k.settled.greatest))

pub fell-requires-clause-placed : goal.fell-requires-clause-placed
fell-requires-clause-placed g c =
    let places = c.self.inside.graph.places.items in
    let low = taken-placed places c.args.node (there places c.args.node c.args.self.now (ap (λ (m : MatcherRecord). m.nodes) (sym c.self.view_is)) c.requires) in
    let q = c.index_mut.result.now in
    let len = length-set places c.args.node (record q { able = false }) in
    omega arith

kept-now : goal.invariant_of-self
kept-now g c =
    let i = c.self.inside in
    let places = i.graph.places.items in
    let leaving = i.graph.leaving.items in
    let node = c.args.node in
    let taken = there places node c.args.self.now (ap (λ (m : MatcherRecord). m.nodes) (sym c.self.view_is)) c.requires in
    let low = taken-placed places node taken in
    let place : c.index_mut.result.now ≡ place_at places node = c.index_mut.ensures.value ∙ get_or_default places node c.index_mut.result.now free low in
    let k = c.self.invariant in
    let s = c.fell.new.self in
    let f = c.fell.ensures in
    rw place (same-kept places node false low leaving i.graph.totals.items i.marks.matched.items i.marks.raised.items s.matched.items s.raised.items i.marks.counts.items s.counts.items
    i.marks.waiting.items i.marks.reached.items s.waiting.items s.reached.items (vec_capacity i.marks.waiting) (vec_capacity s.waiting) i.number i.next k taken (rw place at f.settled) f.none_waits
    (ap (λ r. r.items) f.reached ∙ k.none_reached) f.capacity)

pub invariant_of-self : goal.invariant_of-self
invariant_of-self g c = kept-now g c

pub returns-then-index-clause-nodes : goal.returns-then-index-clause-nodes
returns-then-index-clause-nodes g c =
    let places = c.self.inside.graph.places.items in
    let node = c.args.node in
    let low = taken-placed places node (there places node c.args.self.now (ap (λ (m : MatcherRecord). m.nodes) (sym c.self.view_is)) c.requires) in
    let place : c.index_mut.result.now ≡ place_at places node = c.index_mut.ensures.value ∙ get_or_default places node c.index_mut.result.now free low in
    rw place (flagged-nodes places node false) ∙ ap (λ (m : MatcherRecord). with_flag node false m.nodes) c.self.view_is

pub returns-then-index-clause-edges : goal.returns-then-index-clause-edges
returns-then-index-clause-edges g c =
    let places = c.self.inside.graph.places.items in
    let node = c.args.node in
    let low = taken-placed places node (there places node c.args.self.now (ap (λ (m : MatcherRecord). m.nodes) (sym c.self.view_is)) c.requires) in
    let place : c.index_mut.result.now ≡ place_at places node = c.index_mut.ensures.value ∙ get_or_default places node c.index_mut.result.now free low in
    rw place (same-edges places node false low c.self.inside.graph.leaving.items) ∙ ap (λ (m : MatcherRecord). m.edges) c.self.view_is

pub returns-then-index-clause-matched : goal.returns-then-index-clause-matched
returns-then-index-clause-matched g c =
    let i = c.self.inside in
    let s = c.fell.new.self in
    exact-is (set i.graph.places.items c.args.node (record c.index_mut.result.now { able = false })) i.graph.leaving.items i.graph.totals.items s.matched.items s.raised.items s.counts.items s.waiting.items s.reached.items (vec_capacity s.waiting) i.number i.next (kept-now g c)

pub returns-then-index-clause-counted : goal.returns-then-index-clause-counted
returns-then-index-clause-counted g c =
    let i = c.self.inside in
    let places = i.graph.places.items in
    let leaving = i.graph.leaving.items in
    let node = c.args.node in
    let low = taken-placed places node (there places node c.args.self.now (ap (λ (m : MatcherRecord). m.nodes) (sym c.self.view_is)) c.requires) in
    let place : c.index_mut.result.now ≡ place_at places node = c.index_mut.ensures.value ∙ get_or_default places node c.index_mut.result.now free low in
    let counted = rw (place, same-edges places node false low leaving) at c.fell.ensures.counted in
    let same = lost-is i.marks.matched.items c.fell.new.self.matched.items (edges_from places 0 leaving) in
    rw (← c.self.view_is) (omega (arith, counted, same))

pub returns-else-index-clause-counted : goal.returns-else-index-clause-counted
returns-else-index-clause-counted g c =
    let i = c.self.inside in
    let edges : List Edge = edges_from i.graph.places.items 0 i.graph.leaving.items in
    let same = lost-is i.marks.matched.items i.marks.matched.items edges in
    let none = lost-none (stands i.marks.matched.items) edges in
    let fits = c.count-counted.type_inv in
    rw (← c.self.view_is) (omega (arith, same, none, fits, c.count-counted.ensures))

pub returns-else-index-clause-nodes : goal.returns-else-index-clause-nodes
returns-else-index-clause-nodes g c =
    let places = c.self.inside.graph.places.items in
    let node = c.args.node in
    let low = taken-placed places node (there places node c.args.self.now (ap (λ (m : MatcherRecord). m.nodes) (sym c.self.view_is)) c.requires) in
    let place : c.index.result.now ≡ place_at places node = c.index.ensures ∙ get_or_default places node c.index.result.now free low in
    rw (← c.self.view_is) (flagged-already places node false (ap (λ (q : Place). q.able) (sym place) ∙ c.if-index.false))

pub returns-else-index-clause-matched : goal.returns-else-index-clause-matched
returns-else-index-clause-matched g c =
    let i = c.self.inside in
    rw (← c.self.view_is) (exact-is i.graph.places.items i.graph.leaving.items i.graph.totals.items i.marks.matched.items i.marks.raised.items i.marks.counts.items i.marks.waiting.items i.marks.reached.items (vec_capacity i.marks.waiting) i.number i.next c.self.invariant)
