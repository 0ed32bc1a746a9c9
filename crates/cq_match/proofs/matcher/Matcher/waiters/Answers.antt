use Rattle.std.proofs.Common.{◌≡◌, false, List, [], ◌∷◌, length, get_or, filter, suc, refl, sym, ap, ◌∙◌, subst, arith}
use Rattle.std.specs.List.Sorted.{IsPermutation}
use Rattle.std.proofs.lemmas.List.Sorted.{length_permutation}
use Rattle.std.proofs.lemmas.Result.{IfOk-weaker}
use Rattle.cq_atom.specs.declared.edge.Edge.{Edge}
use Rattle.cq_match.specs.Matcher.{MatcherRecord, has_node, leaves}
use Rattle.cq_match.specs.Steps.Kept.{edges_left}
use Rattle.cq_match.proofs.Bridge.{number-taken}
use Rattle.cq_match.proofs.Edges.{edges-of_node}
use Rattle.cq_match.proofs.matcher.Matcher.waiters.Goals as goal

no-length : (edges : List Edge) → length edges ≡ 0 → edges ≡ []
no-length [] e = refl
no-length (x ∷ edges) e = absurd (let never : suc (length edges) ≡ 0 = e in omega arith)

pub returns-clause-permutation : goal.returns-clause-permutation
returns-clause-permutation g c =
    let places = c.self.inside.graph.places.items in
    let leaving = c.self.inside.graph.leaving.items in
    let node = c.args.node in
    let same : edges_left places node (get_or leaving node []) ≡ filter (leaves node) c.args.self.now.edges =
    sym (edges-of_node places leaving node) ∙ ap (λ (m : MatcherRecord). filter (leaves node) m.edges) c.self.view_is in
    IfOk-weaker c.waiters_of.result _ _ (λ w p. subst (λ (edges : List Edge). IsPermutation edges w.items) same p) c.waiters_of.ensures.permutation

pub returns-clause-absent : goal.returns-clause-absent
returns-clause-absent g c =
    let places = c.self.inside.graph.places.items in
    let leaving = c.self.inside.graph.leaving.items in
    let node = c.args.node in
    let none : has_node node c.args.self.now ≡ false → edges_left places node (get_or leaving node []) ≡ [] = λ gone.
    ap (edges_left places node) (c.self.invariant.free_leaving node (sym (number-taken places node) ∙ ap (λ (m : MatcherRecord). has_node node m) c.self.view_is ∙ gone)) in
    IfOk-weaker c.waiters_of.result _ _
    (λ w p gone. no-length w.items (length_permutation (edges_left places node (get_or leaving node [])) w.items p ∙ ap (λ (edges : List Edge). length edges) (none gone)))
    c.waiters_of.ensures.permutation
