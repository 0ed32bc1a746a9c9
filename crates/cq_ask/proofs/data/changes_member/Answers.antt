use Rattle.std.proofs.Common.{◌≡◌, ◌++◌, refl, subst}
use Rattle.std.specs.Prelude.{codes, string_bytes}
use Rattle.json.specs.Tree.{json_tokens}
use Rattle.cq_board.specs.Pool.{PoolRecord}
use Rattle.cq_ask.specs.Answer.{published_pool}
use Rattle.cq_ask.specs.Data.{changes_json}
use Rattle.cq_ask.proofs.Members.{told_as}
use Rattle.cq_ask.proofs.data.changes_member.Goals as goal

pub returns : goal.returns
returns g c =
    let floor = c.args.floor.now in
    let before = floor.earlier in
    let now = published_pool floor in
    let put =
    subst (λ (pool : PoolRecord). c.put_changes.new.sheet ≡ c.begin-sheet.result ++ json_tokens (changes_json before pool)) c.board.ensures
    (subst (λ (pool : PoolRecord). c.put_changes.new.sheet ≡ c.begin-sheet.result ++ json_tokens (changes_json pool c.board.result.now)) c.earlier.ensures c.in_ok-put_changes.ensures) in
    told_as (λ told. told ≡ (codes "changes", changes_json before now)) string_bytes c.member.result _ (changes_json before now) _ _ c.begin-sheet.ensures put refl c.member.ensures
