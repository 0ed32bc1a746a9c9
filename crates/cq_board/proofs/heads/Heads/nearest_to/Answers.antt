use Rattle.std.proofs.Common.{ℕ, List, [], length, map, sym, ap, subst, ◌∙◌, Some, None}
use Rattle.std.specs.List.{flat_map}
use Rattle.std.proofs.lemmas.Result.{IfOk-weaker}
use Rattle.cq_board.specs.Near.{AreNearest, misses_of}
use Rattle.cq_board.specs.Steps.Heads.{heads_in, IsToldOf}
use Rattle.cq_board.specs.Steps.Nearest.{head_read, IsEarlier, miss_at}
use Rattle.cq_board.proofs.Grouped.{group-found, heads-rise, misses-grouped, pairs-read}
use Rattle.cq_board.proofs.Nearest.{nearest_none}
use Rattle.cq_board.proofs.Pairwise.{Pairwise}
use Rattle.cq_board.proofs.heads.Heads.nearest_to.Goals as goal

pub least-requires : goal.least-requires
least-requires g c =
    let wanted = c.args.wanted.now in
    let found = group-found c.self.inside.groups c.key_of.result wanted (Some c.in-Some.group.now) c.key_of.ensures.relation c.key_of.ensures.arity c.in-Some.ensures.value in
    subst IsToldOf found (c.self.invariant.told wanted.relation (length wanted.terms))

pub nearest_of-requires-clause-rising : goal.nearest_of-requires-clause-rising
nearest_of-requires-clause-rising g c =
    let wanted = c.args.wanted.now in
    let items = c.in-Some.group.now.heads.items in
    let found = group-found c.self.inside.groups c.key_of.result wanted (Some c.in-Some.group.now) c.key_of.ensures.relation c.key_of.ensures.arity c.in-Some.ensures.value in
    let heads = ap heads_in (sym found) ∙ c.self.invariant.kept wanted.relation (length wanted.terms) in
    rw c.deref.ensures.value (pairs-read head_read items (subst (Pairwise IsEarlier) (sym heads) (heads-rise wanted.relation (length wanted.terms) c.self.inside.board.now.pending)))

pub nearest_of-requires-clause-least : goal.nearest_of-requires-clause-least
nearest_of-requires-clause-least g c = rw c.deref.ensures.value c.least.ensures

pub returns-in-Some : goal.returns-in-Some
returns-in-Some g c =
    let wanted = c.args.wanted.now in
    let pending = c.self.inside.board.now.pending in
    let found = group-found c.self.inside.groups c.key_of.result wanted (Some c.in-Some.group.now) c.key_of.ensures.relation c.key_of.ensures.arity c.in-Some.ensures.value in
    let heads = ap heads_in (sym found) ∙ c.self.invariant.kept wanted.relation (length wanted.terms) in
    let all = ap (λ hs. flat_map (miss_at wanted) (map head_read hs)) c.deref.ensures.value ∙ ap (flat_map (miss_at wanted)) heads ∙ misses-grouped wanted pending
    ∙ ap (λ pool. misses_of wanted pool.pending) c.self.view_is in
    IfOk-weaker c.nearest_of.result _ _ (λ kept are. subst (λ (ms : List (ℕ × ℕ × ℕ)). AreNearest ms kept.items) all are) c.nearest_of.ensures

pub returns-in-None : goal.returns-in-None
returns-in-None g c =
    let wanted = c.args.wanted.now in
    let pending = c.self.inside.board.now.pending in
    let found = group-found c.self.inside.groups c.key_of.result wanted None c.key_of.ensures.relation c.key_of.ensures.arity c.in-None.ensures.value in
    let heads = ap heads_in (sym found) ∙ c.self.invariant.kept wanted.relation (length wanted.terms) in
    let all = ap (flat_map (miss_at wanted)) heads ∙ misses-grouped wanted pending ∙ ap (λ pool. misses_of wanted pool.pending) c.self.view_is in
    subst (λ (ms : List (ℕ × ℕ × ℕ)). AreNearest ms c.new.result.items) all (subst (AreNearest []) (sym c.new.ensures.items) nearest_none)
