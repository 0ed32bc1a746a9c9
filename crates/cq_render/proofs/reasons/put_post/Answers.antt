use Rattle.std.proofs.Common.{◌≡◌, ◌++◌, ◌∷◌, [], subst, Option}
use Rattle.std.specs.Prelude.{codes, decimal, OnOk}
use Rattle.json.specs.Token.{key, string, number}
use Rattle.cq_atom.specs.Atom.{AtomRecord}
use Rattle.cq_board.specs.Near.{post_named}
use Rattle.cq_render.specs.Data.{members_or_none}
use Rattle.cq_render.specs.Steps.Telling.{member_tokens}
use Rattle.cq_render.proofs.Pages.{put_both, put_then}
use Rattle.cq_render.proofs.reasons.put_post.Goals as goal

pub returns : goal.returns
returns g c =
    let old = c.args.sheet.now in
    let one = key (codes "reason") ∷ string (codes "unmet") ∷ [] in
    let two = key (codes "post") ∷ number (decimal c.args.post) ∷ [] in
    let told = subst (λ (found : Option AtomRecord). OnOk c.put_members.result (c.put_members.new.sheet ≡ c.count_member.new.self ++ member_tokens (members_or_none found))) c.post_of.ensures c.put_members.ensures in
    put_then old c.count_member.new.self c.put_members.new.sheet (one ++ two) (member_tokens (members_or_none (post_named c.args.name.now c.args.post c.args.board.now.pending))) c.put_members.result
    (put_both old c.text_member.new.self c.count_member.new.self one two c.in_ok-text_member.ensures c.in_ok-count_member.ensures) told
