use Rattle.std.proofs.Common.{◌≡◌, ◌∙◌, ℕ, List, map, ap, sym, subst, rules}
use Rattle.std.specs.List.{Contains}
use Rattle.std.proofs.lemmas.List.Filters.{dedup_is}
use Rattle.std.proofs.lemmas.List.Kept.{Contains-dedup_nat, Contains-from_dedup}
use Rattle.std.proofs.lemmas.List.Sorted.{Contains-permutation, IsPermutation-sym}
use Rattle.std.proofs.lemmas.Map.Keys.{IsStrictlyIncreasing-dedup}
use Rattle.cq_atom.specs.declared.edge.Edge.{Edge}
use Rattle.cq_match.specs.Graph.{edges_to}
use Rattle.cq_board.specs.Edges.{edges_of}
use Rattle.cq_render.proofs.explaining.providers_of.Goals as goal

pub returns : goal.returns
returns g c =
    let pending = c.args.fallen.now.listing.now.board.now.pending in
    let sent : List ℕ = map (λ edge. edge.provider) (edges_to c.args.waiter c.args.post (edges_of pending)) in
    let place : c.from.result ≡ c.args.post = search rules in
    let senders : c.in_ok-providers.providers.items ≡ sent =
    c.in_ok-providers.ensures ∙ ap (map (λ (edge : Edge). edge.provider)) (c.providers.ensures ∙ ap (λ (n : ℕ). edges_to c.args.waiter n (edges_of pending)) place) in
    let is = dedup_is _ _ _ c.dedup.ensures.filtered in
    let moved = c.sort_unstable.ensures.permutation in
    record {
      rising = rw is (IsStrictlyIncreasing-dedup _ c.sort_unstable.ensures.sorted);
      exact = λ n. (
        λ h. subst (λ (ns : List ℕ). Contains ns n) senders (Contains-permutation _ _ n (IsPermutation-sym _ _ moved) (Contains-from_dedup _ _ n (rw is at h))),
        λ h. rw is (Contains-dedup_nat _ n (Contains-permutation _ _ n moved (subst (λ (ns : List ℕ). Contains ns n) (sym senders) h))),
      );
    }
