use Rattle.std.proofs.Common.{◌≡◌, ◌+◌, [], ◌∷◌, Some, drop, subst}
use Rattle.std.specs.Prelude.{string_bytes, option_map}
use Rattle.std.specs.List.{slice_get}
use Rattle.cq_sessions.specs.Script.{Sheet, replies_from}
use Rattle.cq_board.proofs.CallerLemmas.{read_at, got_of_map}
use Rattle.cq_render.proofs.CallerLemmas.{put_on}
use Rattle.cq_sessions.proofs.Pages.{replies_step}
use Rattle.cq_sessions.proofs.script.put_replies.Goals as goal

pub loop-place-preserved : goal.loop-place-preserved
loop-place-preserved g c =
    let i = c.loop-place.place in
    let words = c.args.words.now in
    let replies = c.replies-replies.result.now in
    let sheet = c.args.sheet.now.replies in
    let item = c.index-replies-place.result in
    let there : slice_get sheet i ≡ Some (option_map string_bytes item) =
    subst (λ (z : Sheet). slice_get z i ≡ Some (option_map string_bytes item)) c.replies-replies.ensures
    (got_of_map (option_map string_bytes) replies i item (read_at replies i item c.loop-place-test.true c.index-replies-place.is)) in
    put_on (string_bytes c.loop-place.page) (string_bytes c.put_reply.new.page) (replies_from words (i + 1) (option_map string_bytes item ∷ [])) _ (replies_from words (i + 1 + 1) (drop (i + 1) sheet)) _
    (replies_step words sheet i (option_map string_bytes item) there) c.loop-place.invariant c.in_ok-put_reply.ensures
