use Rattle.std.proofs.Common.{◌≡◌, false, true, sym, ap, ◌∙◌, arith, vec_capacity}
use Rattle.std.proofs.lemmas.List.{get_or_default}
use Rattle.cq_match.specs.declared.graph.Place.{Place}
use Rattle.cq_match.specs.Matcher.{MatcherRecord}
use Rattle.cq_match.specs.Steps.Kept.{free, place_at, nodes_from, is_able}
use Rattle.cq_match.proofs.Rows.{taken-placed}
use Rattle.cq_match.proofs.Bridge.{there, exact-is}
use Rattle.cq_match.proofs.Flags.{flagged-already}
use Rattle.cq_match.proofs.Going.{flag-unable}
use Rattle.cq_match.proofs.matcher.Matcher.enable.Goals as goal

pub index-requires : goal.index-requires
index-requires g c =
    let places = c.self.inside.graph.places.items in
    let low = taken-placed places c.args.node (there places c.args.node c.args.self.now (ap (λ (m : MatcherRecord). m.nodes) (sym c.self.view_is)) c.requires) in
    omega (arith, c.self.inside.graph.places.ok.0)

pub make_able-requires-clause-unable : goal.make_able-requires-clause-unable
make_able-requires-clause-unable g c =
    let places = c.self.inside.graph.places.items in
    let node = c.args.node in
    let low = taken-placed places node (there places node c.args.self.now (ap (λ (m : MatcherRecord). m.nodes) (sym c.self.view_is)) c.requires) in
    let read : c.index.result.now ≡ place_at places node = c.index.ensures ∙ get_or_default places node c.index.result.now free low in
    let same = flagged-already places node false (ap (λ (q : Place). q.able) (sym read) ∙ c.if-index.false) in
    rw (← c.self.view_is) (ap (is_able node) same ∙ flag-unable node (nodes_from 0 places))

pub returns-then-index-clause-nodes : goal.returns-then-index-clause-nodes
returns-then-index-clause-nodes g c =
    let places = c.self.inside.graph.places.items in
    let node = c.args.node in
    let low = taken-placed places node (there places node c.args.self.now (ap (λ (m : MatcherRecord). m.nodes) (sym c.self.view_is)) c.requires) in
    let read : c.index.result.now ≡ place_at places node = c.index.ensures ∙ get_or_default places node c.index.result.now free low in
    rw (← c.self.view_is) (flagged-already places node true (ap (λ (q : Place). q.able) (sym read) ∙ c.if-index.true))

pub returns-then-index-clause-matched : goal.returns-then-index-clause-matched
returns-then-index-clause-matched g c =
    let i = c.self.inside in
    let m = i.marks in
    rw (← c.self.view_is) (exact-is i.graph.places.items i.graph.leaving.items i.graph.totals.items m.matched.items m.raised.items m.counts.items m.waiting.items m.reached.items (vec_capacity m.waiting) i.number i.next c.self.invariant)
