use Rattle.std.proofs.Common.{List, sym, ap, ◌∙◌, arith}
use Rattle.cq_match.specs.declared.graph.Place.{Place}
use Rattle.cq_match.specs.Matcher.{MatcherRecord, has_node}
use Rattle.cq_match.specs.Steps.Kept.{free, place_at}
use Rattle.cq_match.proofs.Bridge.{number-taken}
use Rattle.cq_match.proofs.matcher.Matcher.has.Goals as goal

pub returns-in-Some : goal.returns-in-Some
returns-in-Some g c =
    let places = c.self.inside.graph.places.items in
    let node = c.args.node in
    ap (λ (place : Place). place.taken) (c.in-Some.ensures.lookup.4 (omega arith) free ∙ ap (λ (ps : List Place). place_at ps node) c.deref.ensures.value)
    ∙ sym (number-taken places node) ∙ ap (λ (m : MatcherRecord). has_node node m) c.self.view_is

pub returns-in-None : goal.returns-in-None
returns-in-None g c =
    let places = c.self.inside.graph.places.items in
    let node = c.args.node in
    ap (λ (place : Place). place.taken) (c.in-None.ensures.lookup.4 (omega arith) free ∙ ap (λ (ps : List Place). place_at ps node) c.deref.ensures.value)
    ∙ sym (number-taken places node) ∙ ap (λ (m : MatcherRecord). has_node node m) c.self.view_is
