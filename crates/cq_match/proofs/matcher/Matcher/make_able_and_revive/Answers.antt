use Rattle.std.proofs.Common.{◌≡◌, Bool, true, false, [], List, set, sym, ap, ◌∙◌, subst, arith, vec_capacity}
use Rattle.std.proofs.lemmas.List.{get_or_default, length-set}
use Rattle.cq_match.specs.declared.graph.Place.{Place}
use Rattle.cq_match.specs.Matcher.{MatcherRecord, with_flag}
use Rattle.cq_match.specs.Steps.Settle.{stands}
use Rattle.cq_match.specs.Steps.Kept.{free, place_at, edges_from, is_able, Counting}
use Rattle.cq_match.proofs.Rows.{taken-placed}
use Rattle.cq_match.proofs.Bridge.{there, exact-is}
use Rattle.cq_match.proofs.Flags.{same-edges, same-counting, same-kept, flagged-here, flagged-nodes, closed-before, closed-after, unmatched}
use Rattle.cq_match.proofs.Going.{unable-place}
use Rattle.cq_match.proofs.matcher.Matcher.make_able_and_revive.Goals as goal

pub index_mut-requires : goal.index_mut-requires
index_mut-requires g c =
    let i = c.self.inside in
    let places = i.graph.places.items in
    let leaving = i.graph.leaving.items in
    let node = c.args.node in
    let taken = there places node c.args.self.now (ap (λ (m : MatcherRecord). m.nodes) (sym c.self.view_is)) c.requires.there in
    let low = taken-placed places node taken in
    omega (arith, i.graph.places.ok.0)

pub revive-requires-clause-few : goal.revive-requires-clause-few
revive-requires-clause-few g c =
    let i = c.self.inside in
    let places = i.graph.places.items in
    let leaving = i.graph.leaving.items in
    let node = c.args.node in
    let taken = there places node c.args.self.now (ap (λ (m : MatcherRecord). m.nodes) (sym c.self.view_is)) c.requires.there in
    let low = taken-placed places node taken in
    let place : c.index_mut.result.now ≡ place_at places node = c.index_mut.ensures.value ∙ get_or_default places node c.index_mut.result.now free low in
    let k = c.self.invariant in
    let fits = c.self.ranges.1.1.0.1 in
    rw place (rw (same-edges places node true low leaving) (let n = k.numbered in omega arith))

pub revive-requires-clause-counting : goal.revive-requires-clause-counting
revive-requires-clause-counting g c =
    let i = c.self.inside in
    let places = i.graph.places.items in
    let leaving = i.graph.leaving.items in
    let node = c.args.node in
    let taken = there places node c.args.self.now (ap (λ (m : MatcherRecord). m.nodes) (sym c.self.view_is)) c.requires.there in
    let low = taken-placed places node taken in
    let place : c.index_mut.result.now ≡ place_at places node = c.index_mut.ensures.value ∙ get_or_default places node c.index_mut.result.now free low in
    let k = c.self.invariant in
    rw place (rw (same-edges places node true low leaving) (same-counting places node true low (edges_from places 0 leaving) i.marks.matched.items i.marks.counts.items []
    (subst (λ (bs : List Bool). Counting places (edges_from places 0 leaving) bs i.marks.counts.items []) k.settled.same k.settled.counting)))

pub revive-requires-clause-closed : goal.revive-requires-clause-closed
revive-requires-clause-closed g c =
    let i = c.self.inside in
    let places = i.graph.places.items in
    let leaving = i.graph.leaving.items in
    let node = c.args.node in
    let taken = there places node c.args.self.now (ap (λ (m : MatcherRecord). m.nodes) (sym c.self.view_is)) c.requires.there in
    let low = taken-placed places node taken in
    let place : c.index_mut.result.now ≡ place_at places node = c.index_mut.ensures.value ∙ get_or_default places node c.index_mut.result.now free low in
    let k = c.self.invariant in
    let unable = unable-place places node taken (ap (λ (m : MatcherRecord). is_able node m.nodes) c.self.view_is ∙ c.requires.unable) in
    let down : stands i.marks.matched.items node ≡ false = unmatched places (edges_from places 0 leaving) i.marks.matched.items node k.settled.closed unable in
    rw place (rw (same-edges places node true low leaving) (closed-after places node true low (edges_from places 0 leaving) (stands i.marks.matched.items) down k.settled.closed))

pub revive-requires-clause-others : goal.revive-requires-clause-others
revive-requires-clause-others g c =
    let i = c.self.inside in
    let places = i.graph.places.items in
    let leaving = i.graph.leaving.items in
    let node = c.args.node in
    let taken = there places node c.args.self.now (ap (λ (m : MatcherRecord). m.nodes) (sym c.self.view_is)) c.requires.there in
    let low = taken-placed places node taken in
    let place : c.index_mut.result.now ≡ place_at places node = c.index_mut.ensures.value ∙ get_or_default places node c.index_mut.result.now free low in
    let k = c.self.invariant in
    rw place (rw (same-edges places node true low leaving) (λ members out closed. k.settled.greatest members (closed-before places node true low (edges_from places 0 leaving) members out closed)))

pub revive-requires-clause-placed : goal.revive-requires-clause-placed
revive-requires-clause-placed g c =
    let i = c.self.inside in
    let places = i.graph.places.items in
    let leaving = i.graph.leaving.items in
    let node = c.args.node in
    let taken = there places node c.args.self.now (ap (λ (m : MatcherRecord). m.nodes) (sym c.self.view_is)) c.requires.there in
    let low = taken-placed places node taken in
    let q = c.index_mut.result.now in
    let len = length-set places node (record q { able = true }) in
    omega arith

pub revive-requires-clause-can : goal.revive-requires-clause-can
revive-requires-clause-can g c =
    let i = c.self.inside in
    let places = i.graph.places.items in
    let leaving = i.graph.leaving.items in
    let node = c.args.node in
    let taken = there places node c.args.self.now (ap (λ (m : MatcherRecord). m.nodes) (sym c.self.view_is)) c.requires.there in
    let low = taken-placed places node taken in
    let place : c.index_mut.result.now ≡ place_at places node = c.index_mut.ensures.value ∙ get_or_default places node c.index_mut.result.now free low in
    let k = c.self.invariant in
    rw place (ap (λ (q : Place). q.able) (flagged-here places node true low))

pub revive-requires-clause-down : goal.revive-requires-clause-down
revive-requires-clause-down g c =
    let i = c.self.inside in
    let places = i.graph.places.items in
    let leaving = i.graph.leaving.items in
    let node = c.args.node in
    let taken = there places node c.args.self.now (ap (λ (m : MatcherRecord). m.nodes) (sym c.self.view_is)) c.requires.there in
    let low = taken-placed places node taken in
    let place : c.index_mut.result.now ≡ place_at places node = c.index_mut.ensures.value ∙ get_or_default places node c.index_mut.result.now free low in
    let k = c.self.invariant in
    let unable = unable-place places node taken (ap (λ (m : MatcherRecord). is_able node m.nodes) c.self.view_is ∙ c.requires.unable) in
    let down : stands i.marks.matched.items node ≡ false = unmatched places (edges_from places 0 leaving) i.marks.matched.items node k.settled.closed unable in
    down

kept-now : goal.invariant_of-self-2
kept-now g c =
    let i = c.self.inside in
    let places = i.graph.places.items in
    let leaving = i.graph.leaving.items in
    let node = c.args.node in
    let taken = there places node c.args.self.now (ap (λ (m : MatcherRecord). m.nodes) (sym c.self.view_is)) c.requires.there in
    let low = taken-placed places node taken in
    let place : c.index_mut.result.now ≡ place_at places node = c.index_mut.ensures.value ∙ get_or_default places node c.index_mut.result.now free low in
    let k = c.self.invariant in
    let s = c.revive.new.self in
    let f = c.revive.ensures in
    rw place (same-kept places node true low leaving i.graph.totals.items i.marks.matched.items i.marks.raised.items s.matched.items s.raised.items i.marks.counts.items s.counts.items
    i.marks.waiting.items i.marks.reached.items s.waiting.items s.reached.items (vec_capacity i.marks.waiting) (vec_capacity s.waiting) i.number i.next k taken (rw place at f.settled) f.none_waits
    f.none_reached f.waiting_capacity)

pub invariant_of-self-2 : goal.invariant_of-self-2
invariant_of-self-2 g c = kept-now g c

pub returns-clause-nodes : goal.returns-clause-nodes
returns-clause-nodes g c =
    let i = c.self.inside in
    let places = i.graph.places.items in
    let leaving = i.graph.leaving.items in
    let node = c.args.node in
    let taken = there places node c.args.self.now (ap (λ (m : MatcherRecord). m.nodes) (sym c.self.view_is)) c.requires.there in
    let low = taken-placed places node taken in
    let place : c.index_mut.result.now ≡ place_at places node = c.index_mut.ensures.value ∙ get_or_default places node c.index_mut.result.now free low in
    let k = c.self.invariant in
    rw place (flagged-nodes places node true) ∙ ap (λ (m : MatcherRecord). with_flag node true m.nodes) c.self.view_is

pub returns-clause-edges : goal.returns-clause-edges
returns-clause-edges g c =
    let i = c.self.inside in
    let places = i.graph.places.items in
    let leaving = i.graph.leaving.items in
    let node = c.args.node in
    let taken = there places node c.args.self.now (ap (λ (m : MatcherRecord). m.nodes) (sym c.self.view_is)) c.requires.there in
    let low = taken-placed places node taken in
    let place : c.index_mut.result.now ≡ place_at places node = c.index_mut.ensures.value ∙ get_or_default places node c.index_mut.result.now free low in
    let k = c.self.invariant in
    rw place (same-edges places node true low leaving) ∙ ap (λ (m : MatcherRecord). m.edges) c.self.view_is

pub returns-clause-matched : goal.returns-clause-matched
returns-clause-matched g c =
    let i = c.self.inside in
    let s = c.revive.new.self in
    exact-is (set i.graph.places.items c.args.node (record c.index_mut.result.now { able = true })) i.graph.leaving.items i.graph.totals.items s.matched.items s.raised.items s.counts.items s.waiting.items s.reached.items (vec_capacity s.waiting) i.number i.next (kept-now g c)

pub returns-in_err-reserve-clause-matched : goal.returns-in_err-reserve-clause-matched
returns-in_err-reserve-clause-matched g c =
    let i = c.self.inside in
    let places = i.graph.places.items in
    let leaving = i.graph.leaving.items in
    let node = c.args.node in
    let taken = there places node c.args.self.now (ap (λ (m : MatcherRecord). m.nodes) (sym c.self.view_is)) c.requires.there in
    let low = taken-placed places node taken in
    (exact-is places leaving i.graph.totals.items i.marks.matched.items i.marks.raised.items i.marks.counts.items i.marks.waiting.items i.marks.reached.items (vec_capacity i.marks.waiting) i.number i.next c.self.invariant)
