use Rattle.std.proofs.Common.{◌≡◌, ◌++◌, ◌∷◌, [], List, subst, sym}
use Rattle.std.specs.Prelude.{codes, decimal, filter, OnOk}
use Rattle.json.specs.Token.{Token, begin_object, end_object, key, string, number}
use Rattle.json.specs.Tree.{json_tokens}
use Rattle.cq_board.specs.Board.{links_of}
use Rattle.cq_board.specs.Named.{query_named}
use Rattle.cq_render.specs.Json.{grounding_json}
use Rattle.cq_render.proofs.CallerLemmas.{put_then}
use Rattle.cq_going.specs.Reasons.{leads_there}
use Rattle.cq_going.specs.Data.{first_json, post_members}
use Rattle.cq_going.specs.Steps.Tokens.{members_alone}
use Rattle.cq_going.proofs.Tokens.{members_after}
use Rattle.cq_going.proofs.data_reasons.put_lack.Goals as goal

pub returns : goal.returns
returns g c =
    let pool = c.args.board.now in
    let name = c.args.name.now in
    let values = c.args.values.now in
    let post = c.args.post in
    let atom = post_members (query_named name pool.pending) values post in
    let offer = first_json pool (filter (leads_there pool name post) (links_of pool.pending)) in
    let front = begin_object ∷ key (codes "query") ∷ string name ∷ key (codes "values") ∷ json_tokens (grounding_json values) in
    let number_of = key (codes "post") ∷ number (decimal post) ∷ [] in
    let last = key (codes "offered") ∷ (json_tokens offer ++ end_object ∷ []) in
    subst (λ (z : List Token). OnOk c.end_lack.result (c.end_lack.new.sheet ≡ c.args.sheet.now ++ (front ++ (number_of ++ z)))) (sym (members_after atom ((codes "offered", offer) ∷ [])))
    (put_then c.args.sheet.now c.begin_valued.new.sheet c.end_lack.new.sheet front (number_of ++ (members_alone atom ++ last)) c.end_lack.result c.in_ok-begin_valued.ensures
    (put_then c.begin_valued.new.sheet c.count_member.new.self c.end_lack.new.sheet number_of (members_alone atom ++ last) c.end_lack.result c.in_ok-count_member.ensures
    (put_then c.count_member.new.self c.put_post.new.sheet c.end_lack.new.sheet (members_alone atom) last c.end_lack.result
    (rw c.query.ensures at c.in_ok-put_post.ensures) c.end_lack.ensures)))
