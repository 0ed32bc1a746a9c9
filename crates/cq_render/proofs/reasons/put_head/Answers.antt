use Rattle.std.proofs.Common.{◌≡◌, ◌++◌, ◌∷◌, [], ℕ, List, subst, Option}
use Rattle.std.specs.Prelude.{codes, decimal}
use Rattle.json.specs.Json as values
use Rattle.json.specs.Token.{key, string, number}
use Rattle.cq_atom.specs.Atom.{AtomRecord}
use Rattle.cq_render.specs.Explain.{head_named}
use Rattle.cq_render.specs.Json.{count}
use Rattle.cq_render.specs.Data.{members_or_none}
use Rattle.cq_render.specs.Steps.Telling.{member_tokens}
use Rattle.cq_render.proofs.Pages.{put_both}
use Rattle.cq_render.proofs.Telling.{put_object}
use Rattle.cq_render.proofs.reasons.put_head.Goals as goal

pub returns : goal.returns
returns g c =
    let near = c.args.near.now in
    let atom = members_or_none (head_named near.provider.now near.head c.args.board.now.pending) in
    let first = c.begin_object.new.self in
    let one = key (codes "query") ∷ string near.provider.now ∷ [] in
    let two = key (codes "head") ∷ number (decimal near.head) ∷ [] in
    let named = subst (λ (name : List ℕ). c.text_member.new.self ≡ first ++ key (codes "query") ∷ string name ∷ []) c.as_str.ensures.bytes c.in_ok-text_member.ensures in
    let told = subst (λ (found : Option AtomRecord). c.put_members.new.sheet ≡ c.count_member.new.self ++ member_tokens (members_or_none found)) c.head_of.ensures c.in_ok-put_members.ensures in
    put_object c.args.sheet.now first c.put_members.new.sheet c.end_object.new.self ((codes "query", values.string near.provider.now) ∷ (codes "head", count near.head) ∷ atom) c.end_object.result c.in_ok-begin_object.ensures
    (put_both first c.count_member.new.self c.put_members.new.sheet (one ++ two) (member_tokens atom)
    (put_both first c.text_member.new.self c.count_member.new.self one two named c.in_ok-count_member.ensures) told) c.end_object.ensures
