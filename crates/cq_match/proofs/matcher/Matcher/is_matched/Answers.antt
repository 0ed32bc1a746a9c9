use Rattle.std.proofs.Common.{Bool, false, List, nat_eq, sym, ap, ◌∙◌, arith}
use Rattle.std.specs.Set.{is_member}
use Rattle.cq_match.specs.Matched.{is_matched}
use Rattle.cq_match.specs.Matcher.{MatcherRecord}
use Rattle.cq_match.specs.Steps.Settle.{stands}
use Rattle.cq_match.specs.Steps.Kept.{edges_from}
use Rattle.cq_match.proofs.Bridge.{marked-member, definition-is}
use Rattle.cq_match.proofs.matcher.Matcher.is_matched.Goals as goal

pub returns-in-Some-clause-kept : goal.returns-in-Some-clause-kept
returns-in-Some-clause-kept g c =
    let matched = c.self.inside.marks.matched.items in
    let node = c.args.node in
    (c.in-Some.ensures.lookup.4 (omega arith) false ∙ ap (λ (bs : List Bool). stands bs node) c.deref.ensures.value)
    ∙ sym (marked-member matched node) ∙ ap (λ (m : MatcherRecord). is_member nat_eq m.matched node) c.self.view_is

pub returns-in-Some-clause-exact : goal.returns-in-Some-clause-exact
returns-in-Some-clause-exact g c =
    let i = c.self.inside in
    let k = c.self.invariant in
    let places = i.graph.places.items in
    let node = c.args.node in
    (c.in-Some.ensures.lookup.4 (omega arith) false ∙ ap (λ (bs : List Bool). stands bs node) c.deref.ensures.value)
    ∙ sym (definition-is places (edges_from places 0 i.graph.leaving.items) i.marks.matched.items k.able_taken k.settled.closed k.settled.greatest node)
    ∙ ap (λ (m : MatcherRecord). is_matched m.nodes m.edges node) c.self.view_is

pub returns-in-None-clause-kept : goal.returns-in-None-clause-kept
returns-in-None-clause-kept g c =
    let matched = c.self.inside.marks.matched.items in
    let node = c.args.node in
    (c.in-None.ensures.lookup.4 (omega arith) false ∙ ap (λ (bs : List Bool). stands bs node) c.deref.ensures.value)
    ∙ sym (marked-member matched node) ∙ ap (λ (m : MatcherRecord). is_member nat_eq m.matched node) c.self.view_is

pub returns-in-None-clause-exact : goal.returns-in-None-clause-exact
returns-in-None-clause-exact g c =
    let i = c.self.inside in
    let k = c.self.invariant in
    let places = i.graph.places.items in
    let node = c.args.node in
    (c.in-None.ensures.lookup.4 (omega arith) false ∙ ap (λ (bs : List Bool). stands bs node) c.deref.ensures.value)
    ∙ sym (definition-is places (edges_from places 0 i.graph.leaving.items) i.marks.matched.items k.able_taken k.settled.closed k.settled.greatest node)
    ∙ ap (λ (m : MatcherRecord). is_matched m.nodes m.edges node) c.self.view_is
