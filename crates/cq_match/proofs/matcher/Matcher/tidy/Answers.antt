use Rattle.std.proofs.Common.{◌≡◌, ◌<◌, [], List, length, get_or, sym, ap, ◌∙◌, arith}
use Rattle.std.proofs.lemmas.List.{get_or_default}
use Rattle.cq_atom.specs.declared.edge.Edge.{Edge}
use Rattle.cq_match.specs.Matched.{numbers}
use Rattle.cq_match.specs.Matcher.{MatcherRecord}
use Rattle.cq_match.specs.Steps.Kept.{nodes_from, marked_from}
use Rattle.cq_match.proofs.Rows.{taken-placed}
use Rattle.cq_match.proofs.Union.{contained-member}
use Rattle.cq_match.proofs.Bridge.{there}
use Rattle.cq_match.proofs.Tidying.{Tidied, tidied-edges, tidied-kept}
use Rattle.cq_match.proofs.matcher.Matcher.tidy.Goals as goal

pub index_mut-requires : goal.index_mut-requires
index_mut-requires g c =
    let i = c.self.inside in
    let places = i.graph.places.items in
    let low = taken-placed places c.args.node (there places c.args.node c.args.self.now (ap (λ (m : MatcherRecord). m.nodes) (sym c.self.view_is)) (contained-member (numbers c.args.self.now.nodes) c.args.node c.requires)) in
    let len = c.self.invariant.leaving_len in
    omega (arith, i.graph.leaving.ok.0)

pub invariant_of-self : goal.invariant_of-self
invariant_of-self g c =
    let i = c.self.inside in
    let places = i.graph.places.items in
    let leaving = i.graph.leaving.items in
    let node = c.args.node in
    let low = taken-placed places node (there places node c.args.self.now (ap (λ (m : MatcherRecord). m.nodes) (sym c.self.view_is)) (contained-member (numbers c.args.self.now.nodes) node c.requires)) in
    let inside : node < length leaving = (let len = c.self.invariant.leaving_len in omega arith) in
    let outs : c.index_mut.result.now ≡ get_or leaving node [] = c.index_mut.ensures.value ∙ get_or_default leaving node c.index_mut.result.now [] inside in
    let tidied : Tidied places c.tidy.new.self (get_or leaving node []) = rw (← c.deref.ensures.value, ← outs) c.tidy.ensures in
    tidied-kept c.self.invariant node c.tidy.new.self inside tidied

pub returns : goal.returns
returns g c =
    let i = c.self.inside in
    let places = i.graph.places.items in
    let leaving = i.graph.leaving.items in
    let node = c.args.node in
    let low = taken-placed places node (there places node c.args.self.now (ap (λ (m : MatcherRecord). m.nodes) (sym c.self.view_is)) (contained-member (numbers c.args.self.now.nodes) node c.requires)) in
    let inside : node < length leaving = (let len = c.self.invariant.leaving_len in omega arith) in
    let outs : c.index_mut.result.now ≡ get_or leaving node [] = c.index_mut.ensures.value ∙ get_or_default leaving node c.index_mut.result.now [] inside in
    let tidied : Tidied places c.tidy.new.self (get_or leaving node []) = rw (← c.deref.ensures.value, ← outs) c.tidy.ensures in
    let seen : List Edge → MatcherRecord = λ edges. record { nodes = nodes_from 0 places; edges = edges; matched = marked_from 0 i.marks.matched.items } in
    ap seen (tidied-edges places leaving node c.tidy.new.self tidied) ∙ c.self.view_is
