use Rattle.std.proofs.Common.{ℕ, List, [], get_or, sym, ap, ◌∙◌, arith}
use Rattle.std.proofs.lemmas.List.Sums.{length-filter}
use Rattle.cq_match.specs.Graph.{leads_to, provider_count}
use Rattle.cq_match.specs.Matcher.{MatcherRecord}
use Rattle.cq_match.specs.Steps.Kept.{edges_from}
use Rattle.cq_match.proofs.matcher.Matcher.providers.Goals as goal

pub returns-in-Some : goal.returns-in-Some
returns-in-Some g c =
    let i = c.self.inside in
    let places = i.graph.places.items in
    let node = c.args.node in
    let post = c.args.post in
    c.at.ensures
    ∙ ap (λ (k : ℕ). get_or c.in-Some.counts.now k 0) c.from.ensures
    ∙ ap (λ (row : List ℕ). get_or row post 0) (c.in-Some.ensures.lookup.4 (omega arith) [] ∙ ap (λ (rows : List (List ℕ)). get_or rows node []) c.deref.ensures.value)
    ∙ c.self.invariant.totaled node post ∙ sym (length-filter (leads_to node post) (edges_from places 0 i.graph.leaving.items))
    ∙ ap (λ (m : MatcherRecord). provider_count node post m.edges) c.self.view_is

pub returns-in-None : goal.returns-in-None
returns-in-None g c =
    let i = c.self.inside in
    let places = i.graph.places.items in
    let node = c.args.node in
    let post = c.args.post in
    ap (λ (row : List ℕ). get_or row post 0) (c.in-None.ensures.lookup.4 (omega arith) [] ∙ ap (λ (rows : List (List ℕ)). get_or rows node []) c.deref.ensures.value)
    ∙ c.self.invariant.totaled node post ∙ sym (length-filter (leads_to node post) (edges_from places 0 i.graph.leaving.items))
    ∙ ap (λ (m : MatcherRecord). provider_count node post m.edges) c.self.view_is
