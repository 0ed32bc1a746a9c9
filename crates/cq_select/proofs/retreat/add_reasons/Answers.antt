use Rattle.std.proofs.Common.{◌≡◌, ◌++◌, ⊎_elim}
use Rattle.std.proofs.lemmas.List.Elements.{Contains-append_cases, Contains-append_left, Contains-append_right}
use Rattle.std.proofs.lemmas.List.Filters.{dedup_is}
use Rattle.std.proofs.lemmas.List.Kept.{Contains-dedup_nat, Contains-from_dedup}
use Rattle.std.proofs.lemmas.List.Sorted.{Contains-permutation, IsPermutation-sym}
use Rattle.cq_select.proofs.retreat.add_reasons.Goals as goal

pub returns : goal.returns
returns g c m =
    let reason = c.args.reason.now.items in
    let more = c.args.more.now in
    let is = dedup_is _ _ _ c.dedup.ensures.filtered in
    let moved = c.sort_unstable.ensures.permutation in
    let all : c.extend_from_slice.new.self.items ≡ reason ++ more = c.in_ok-extend_from_slice.ensures.items in (
      λ h. Contains-append_cases reason more m (rw all at (Contains-permutation _ _ m (IsPermutation-sym _ _ moved) (Contains-from_dedup _ _ m (rw is at h)))),
      λ h. rw is (Contains-dedup_nat _ m (Contains-permutation _ _ m moved (rw all (⊎_elim (Contains-append_left reason more m) (Contains-append_right reason more m) h)))),
    )
