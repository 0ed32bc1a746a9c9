use Rattle.std.proofs.Common.{◌≡◌, ◌+◌, ◌++◌, ◌∷◌, ◌∙◌, [], ℕ, Option, drop, sym, ap, append-nil, arith}
use Rattle.std.specs.List.{flat_map, enumerate_from}
use Rattle.std.specs.Option.{option_map_or}
use Rattle.cq_render.specs.Hints.{like_if}
use Rattle.cq_render.proofs.Pieces.{read_at, numbered_at, nothing_left}
use Rattle.cq_render.proofs.Pages.{put_on, put_end}
use Rattle.cq_render.proofs.likes.put_likes.Goals.{in-Some+in_ok-push, in_default}
use Rattle.cq_render.proofs.likes.put_likes.Goals as goal

pub loop-place-preserved : goal.loop-place-preserved
loop-place-preserved g c =
    let wanted = c.args.wanted.now in
    let number = c.args.number in
    let heads = c.args.heads.now in
    let i = c.loop-place.place in
    let head = c.index-heads-place.result in
    let likes = c.loop-place.likes.items in
    let f = like_if wanted number in
    let one = λ (changes : Option ℕ). likes ++ option_map_or (λ changes. (changes, number, i) ∷ []) changes [] in
    let more : c.match-branch-2.likes.items ≡ likes ++ f (i, head) = elim c.match-branch-2.branch [
      | in-Some+in_ok-push w ↦ ap (λ likes. likes.items) w.likes-is ∙ w.in_ok-push.ensures.items ∙ ap one (sym w.in-Some.is ∙ c.in_ok-changes.ensures)
      | in_default w ↦ ap (λ likes. likes.items) w.likes-is ∙ sym (append-nil likes) ∙ ap one (sym w.in_default.is ∙ c.in_ok-changes.ensures)
    ] in
    put_on likes c.match-branch-2.likes.items (f (i, head)) _ (flat_map f (enumerate_from (i + 1) (drop (i + 1) heads))) _
    (numbered_at f heads i head (read_at heads i head c.loop-place-test.true c.index-heads-place.is)) c.loop-place.invariant more

pub returns : goal.returns
returns g c =
    let heads = c.args.heads.now in
    let i = c.loop-place.place in
    let f = like_if c.args.wanted.now c.args.number in
    let auto = c.loop-place.auto.place-end in
    let over = c.loop-place-test.false in
    put_end c.loop-place.likes.items (flat_map f (enumerate_from i (drop i heads))) _ (ap (λ left. flat_map f (enumerate_from i left)) (nothing_left heads i (omega arith))) c.loop-place.invariant
