use Rattle.std.proofs.Common.{◌≡◌, [], length, get_or, set, filter, count_by, eqb, sym, ap, ◌∙◌, arith, vec_capacity}
use Rattle.cq_atom.specs.declared.edge.Edge.{Edge}
use Rattle.cq_match.specs.Graph.{leads_to}
use Rattle.cq_match.specs.Matcher.{MatcherRecord, without, is_apart}
use Rattle.cq_match.specs.Steps.Kept.{free, edges_from, edges_left, is_able}
use Rattle.cq_match.proofs.Rows.{taken-placed}
use Rattle.cq_match.proofs.Bridge.{there, exact-is}
use Rattle.cq_match.proofs.Edges.{edges-of_node}
use Rattle.cq_match.proofs.Erasing.{part-less, edges-without, erased-kept}
use Rattle.cq_match.proofs.Going.{erased-nodes, unable-place}
use Rattle.cq_match.proofs.matcher.Matcher.erase.Goals as goal

pub lower_totals-requires-clause-within : goal.lower_totals-requires-clause-within
lower_totals-requires-clause-within g c =
    let places = c.self.inside.graph.places.items in
    let low = taken-placed places c.args.node (there places c.args.node c.args.self.now (ap (λ (m : MatcherRecord). m.nodes) (sym c.self.view_is)) c.requires.there) in
    let len = c.self.invariant.leaving_len in
    let same = ap length c.deref-2.ensures.value in
    omega arith

pub lower_totals-requires-clause-counted : goal.lower_totals-requires-clause-counted
lower_totals-requires-clause-counted g c =
    let places = c.self.inside.graph.places.items in
    let leaving = c.self.inside.graph.leaving.items in
    let node = c.args.node in
    rw (c.deref.ensures.value, c.deref-2.ensures.value) (λ n k.
    let own : count_by (leads_to n k) (filter (λ (e : Edge). eqb e.provider node) (edges_from places 0 leaving)) ≡ count_by (leads_to n k) (edges_left places node (get_or leaving node [])) = ap (count_by (leads_to n k)) (edges-of_node places leaving node) in
    let less = part-less (leads_to n k) (λ (e : Edge). eqb e.provider node) (edges_from places 0 leaving) in
    let all = c.self.invariant.totaled n k in
    omega arith)

pub index_mut-requires : goal.index_mut-requires
index_mut-requires g c =
    let places = c.self.inside.graph.places.items in
    let low = taken-placed places c.args.node (there places c.args.node c.args.self.now (ap (λ (m : MatcherRecord). m.nodes) (sym c.self.view_is)) c.requires.there) in
    omega (arith, c.self.inside.graph.places.ok.0)

pub index_mut-requires-2 : goal.index_mut-requires-2
index_mut-requires-2 g c =
    let places = c.self.inside.graph.places.items in
    let low = taken-placed places c.args.node (there places c.args.node c.args.self.now (ap (λ (m : MatcherRecord). m.nodes) (sym c.self.view_is)) c.requires.there) in
    let len = c.self.invariant.leaving_len in
    omega (arith, c.self.inside.graph.leaving.ok.0)

pub index_mut-requires-3 : goal.index_mut-requires-3
index_mut-requires-3 g c =
    let places = c.self.inside.graph.places.items in
    let low = taken-placed places c.args.node (there places c.args.node c.args.self.now (ap (λ (m : MatcherRecord). m.nodes) (sym c.self.view_is)) c.requires.there) in
    let len = c.self.invariant.totals_len in
    let same = c.lower_totals.ensures.len in
    omega (arith, c.lower_totals.new.totals.ok.0)

pub index_mut-requires-4 : goal.index_mut-requires-4
index_mut-requires-4 g c =
    let places = c.self.inside.graph.places.items in
    let low = taken-placed places c.args.node (there places c.args.node c.args.self.now (ap (λ (m : MatcherRecord). m.nodes) (sym c.self.view_is)) c.requires.there) in
    let len = c.self.invariant.settled.counting.counts_len in
    omega (arith, c.self.inside.marks.counts.ok.0)

kept-now : goal.invariant_of-self
kept-now g c =
    let i = c.self.inside in
    let m = i.marks in
    let places = i.graph.places.items in
    let leaving = i.graph.leaving.items in
    let node = c.args.node in
    let taken = there places node c.args.self.now (ap (λ (m : MatcherRecord). m.nodes) (sym c.self.view_is)) c.requires.there in
    let low = taken-placed places node taken in
    let k = c.self.invariant in
    let l = c.lower_totals.ensures in
    let unable = unable-place places node taken (ap (λ (m : MatcherRecord). is_able node m.nodes) c.self.view_is ∙ c.requires.unable) in
    let older = k.older node in
    let lowered = rw (c.deref.ensures.value, c.deref-2.ensures.value) at l.lowered in
    rw (c.clear.ensures, c.clear-2.ensures, c.clear-3.ensures)
    (erased-kept places node low leaving i.graph.totals.items c.lower_totals.new.totals.items m.matched.items m.raised.items m.counts.items m.waiting.items m.reached.items (vec_capacity m.waiting) i.number i.next k
    unable (omega arith) (l.len ∙ k.totals_len) (λ n. l.rows n ∙ k.totals_row n) lowered)

pub invariant_of-self : goal.invariant_of-self
invariant_of-self g c = kept-now g c

pub returns-clause-nodes : goal.returns-clause-nodes
returns-clause-nodes g c =
    erased-nodes c.self.inside.graph.places.items c.args.node ∙ ap (λ (m : MatcherRecord). without c.args.node m.nodes) c.self.view_is

pub returns-clause-edges : goal.returns-clause-edges
returns-clause-edges g c =
    let places = c.self.inside.graph.places.items in
    let low = taken-placed places c.args.node (there places c.args.node c.args.self.now (ap (λ (m : MatcherRecord). m.nodes) (sym c.self.view_is)) c.requires.there) in
    rw c.clear.ensures (edges-without places c.args.node low c.self.inside.graph.leaving.items) ∙ ap (λ (m : MatcherRecord). filter (is_apart c.args.node) m.edges) c.self.view_is

pub returns-clause-matched : goal.returns-clause-matched
returns-clause-matched g c =
    let i = c.self.inside in
    let m = i.marks in
    exact-is (set i.graph.places.items c.args.node free) (set i.graph.leaving.items c.args.node c.clear.new.self) (set c.lower_totals.new.totals.items c.args.node c.clear-2.new.self) m.matched.items m.raised.items
    (set m.counts.items c.args.node c.clear-3.new.self) m.waiting.items m.reached.items (vec_capacity m.waiting) i.number i.next (kept-now g c)
