use Rattle.std.proofs.Common.{◌≡◌, ◌++◌, ◌∷◌, [], List, subst, sym}
use Rattle.std.specs.Prelude.{codes, decimal, OnOk}
use Rattle.std.specs.List.{slice_get}
use Rattle.json.specs.Token.{Token, begin_object, end_object, key, string, number}
use Rattle.json.specs.Tree.{json_tokens}
use Rattle.cq_render.specs.Json.{grounding_json}
use Rattle.cq_render.proofs.CallerLemmas.{put_then}
use Rattle.cq_going.specs.Data.{under_members}
use Rattle.cq_going.specs.Steps.Tokens.{members_alone}
use Rattle.cq_going.proofs.Tokens.{members_whole}
use Rattle.cq_going.proofs.data_reasons.put_first.Goals as goal

pub returns : goal.returns
returns g c =
    let link = c.args.link.now in
    let query = c.args.query.now in
    let values = c.args.values.now in
    let atom = under_members query values (slice_get query.heads link.head) in
    let front = begin_object ∷ key (codes "query") ∷ string link.provider.now ∷ key (codes "values") ∷ json_tokens (grounding_json values) in
    let head = key (codes "head") ∷ number (decimal link.head) ∷ [] in
    let last = end_object ∷ [] in
    subst (λ (z : List Token). OnOk c.end_object.result (c.end_object.new.self ≡ c.args.sheet.now ++ (front ++ (head ++ z)))) (sym (members_whole atom))
    (put_then c.args.sheet.now c.begin_valued.new.sheet c.end_object.new.self front (head ++ (members_alone atom ++ last)) c.end_object.result c.in_ok-begin_valued.ensures
    (put_then c.begin_valued.new.sheet c.count_member.new.self c.end_object.new.self head (members_alone atom ++ last) c.end_object.result c.in_ok-count_member.ensures
    (put_then c.count_member.new.self c.put_if_there.new.sheet c.end_object.new.self (members_alone atom) last c.end_object.result
    (rw c.head_of.ensures at c.in_ok-put_if_there.ensures) c.end_object.ensures)))
