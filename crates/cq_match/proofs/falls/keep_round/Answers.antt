use Rattle.std.proofs.Common.{◌≡◌, Bool, ℕ, filter, rules}
use Rattle.std.proofs.lemmas.Fn.{filter_same}
use Rattle.std.proofs.lemmas.List.Filters.{dedup_is}
use Rattle.std.proofs.lemmas.List.Kept.{Contains-dedup_nat, Contains-from_dedup}
use Rattle.std.proofs.lemmas.List.Sorted.{Contains-permutation, IsPermutation-sym}
use Rattle.std.proofs.lemmas.Map.Keys.{IsStrictlyIncreasing-dedup}
use Rattle.cq_match.specs.Steps.Settle.{stands}
use Rattle.cq_match.proofs.Felled.{filtered-has, filtered-from}
use Rattle.cq_match.proofs.falls.keep_round.Goals as goal

pub returns-clause-rising : goal.returns-clause-rising
returns-clause-rising g c =
    let is = dedup_is _ _ _ c.dedup.ensures.filtered in
    rw is (IsStrictlyIncreasing-dedup _ c.sort_unstable.ensures.sorted)

pub returns-clause-kept : goal.returns-clause-kept
returns-clause-kept g c place =
    let up : ℕ → Bool = stands c.args.standing.now in
    let all = c.args.waiting.now.items in
    let is = dedup_is _ _ _ c.dedup.ensures.filtered in
    let moved = c.sort_unstable.ensures.permutation in
    let kept : c.retain.new.self.items ≡ filter up all = filter_same _ _ _ (λ x b f' k. search rules) _ _ c.retain.ensures.filtered in (
      λ h. filtered-from up all place (rw kept at (Contains-permutation _ _ place (IsPermutation-sym _ _ moved) (Contains-from_dedup _ _ place (rw is at h)))),
      λ h. rw is (Contains-dedup_nat _ place (Contains-permutation _ _ place moved (rw kept (filtered-has up all place h.0 h.1)))),
    )
