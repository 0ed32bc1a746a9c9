use Rattle.std.proofs.Common.{◌≡◌, true, eqb, [], set, refl, sym, ap, ◌∙◌, arith, vec_capacity}
use Rattle.std.specs.List.{list_any}
use Rattle.std.proofs.lemmas.List.{get_or_default}
use Rattle.cq_match.specs.Matcher.{MatcherRecord, with_flag}
use Rattle.cq_match.specs.Steps.Kept.{free, place_at, is_able}
use Rattle.cq_match.proofs.Rows.{row, taken-placed}
use Rattle.cq_match.proofs.Bridge.{there, exact-is}
use Rattle.cq_match.proofs.Flags.{same-edges, same-kept, flagged-nodes}
use Rattle.cq_match.proofs.Going.{unable-place}
use Rattle.cq_match.proofs.MadeAble.{unfed-settled}
use Rattle.cq_match.proofs.matcher.Matcher.make_able.Goals as goal

pub index-requires : goal.index-requires
index-requires g c =
    let i = c.self.inside in
    let places = i.graph.places.items in
    let low = taken-placed places c.args.node (there places c.args.node c.args.self.now (ap (λ (m : MatcherRecord). m.nodes) (sym c.self.view_is)) c.requires.there) in
    let len = c.self.invariant.totals_len in
    omega (arith, i.graph.totals.ok.0)

pub index_mut-requires : goal.index_mut-requires
index_mut-requires g c =
    let i = c.self.inside in
    let places = i.graph.places.items in
    let low = taken-placed places c.args.node (there places c.args.node c.args.self.now (ap (λ (m : MatcherRecord). m.nodes) (sym c.self.view_is)) c.requires.there) in
    omega (arith, i.graph.places.ok.0)

kept-now : goal.invariant_of-self
kept-now g c =
    let i = c.self.inside in
    let places = i.graph.places.items in
    let leaving = i.graph.leaving.items in
    let totals = i.graph.totals.items in
    let node = c.args.node in
    let m = i.marks in
    let taken = there places node c.args.self.now (ap (λ (r : MatcherRecord). r.nodes) (sym c.self.view_is)) c.requires.there in
    let low = taken-placed places node taken in
    let place : c.index_mut.result.now ≡ place_at places node = c.index_mut.ensures.value ∙ get_or_default places node c.index_mut.result.now free low in
    let k = c.self.invariant in
    let unable = unable-place places node taken (ap (λ (r : MatcherRecord). is_able node r.nodes) c.self.view_is ∙ c.requires.unable) in
    let counts : c.index.result.now ≡ row totals node = c.index.ensures ∙ get_or_default totals node c.index.result.now [] (let l = k.totals_len in omega arith) in
    let lacks : list_any (λ count. eqb count 0) (row totals node) ≡ true = ap (list_any (λ count. eqb count 0)) (sym counts) ∙ sym c.has_none.ensures ∙ c.if-not-has_none.false in
    rw place (same-kept places node true low leaving totals m.matched.items m.raised.items m.matched.items m.raised.items m.counts.items m.counts.items m.waiting.items m.reached.items m.waiting.items m.reached.items
    (vec_capacity m.waiting) (vec_capacity m.waiting) i.number i.next k taken (unfed-settled k node low unable lacks) k.none_waits k.none_reached refl)

pub invariant_of-self : goal.invariant_of-self
invariant_of-self g c = kept-now g c

pub returns-clause-nodes : goal.returns-clause-nodes
returns-clause-nodes g c =
    let places = c.self.inside.graph.places.items in
    let node = c.args.node in
    let low = taken-placed places node (there places node c.args.self.now (ap (λ (m : MatcherRecord). m.nodes) (sym c.self.view_is)) c.requires.there) in
    let place : c.index_mut.result.now ≡ place_at places node = c.index_mut.ensures.value ∙ get_or_default places node c.index_mut.result.now free low in
    rw place (flagged-nodes places node true) ∙ ap (λ (m : MatcherRecord). with_flag node true m.nodes) c.self.view_is

pub returns-clause-edges : goal.returns-clause-edges
returns-clause-edges g c =
    let places = c.self.inside.graph.places.items in
    let node = c.args.node in
    let low = taken-placed places node (there places node c.args.self.now (ap (λ (m : MatcherRecord). m.nodes) (sym c.self.view_is)) c.requires.there) in
    let place : c.index_mut.result.now ≡ place_at places node = c.index_mut.ensures.value ∙ get_or_default places node c.index_mut.result.now free low in
    rw place (same-edges places node true low c.self.inside.graph.leaving.items) ∙ ap (λ (m : MatcherRecord). m.edges) c.self.view_is

pub returns-clause-matched : goal.returns-clause-matched
returns-clause-matched g c =
    let i = c.self.inside in
    let m = i.marks in
    exact-is (set i.graph.places.items c.args.node (record c.index_mut.result.now { able = true })) i.graph.leaving.items i.graph.totals.items m.matched.items m.raised.items m.counts.items m.waiting.items m.reached.items
    (vec_capacity m.waiting) i.number i.next (kept-now g c)
