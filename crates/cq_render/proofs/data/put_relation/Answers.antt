use Rattle.std.proofs.Common.{◌≡◌, ◌++◌, ◌∷◌, [], ℕ, subst}
use Rattle.std.specs.Prelude.{codes, decimal, OnOk}
use Rattle.json.specs.Json as values
use Rattle.json.specs.Token.{begin_object, end_object, key, string, number}
use Rattle.json.specs.Tree.{json_tokens}
use Rattle.cq_render.specs.Json.{object_of, count}
use Rattle.cq_render.proofs.Pages.{put_both, put_then}
use Rattle.cq_render.proofs.data.put_relation.Goals as goal

pub returns : goal.returns
returns g c =
    let old = c.args.sheet.now in
    let one = begin_object ∷ [] in
    let two = key (codes "name") ∷ string c.args.relation.now ∷ [] in
    let three = key (codes "arity") ∷ number (decimal c.args.arity) ∷ [] in
    let four = key (codes "rows") ∷ number (decimal c.row_count-rows.result) ∷ [] in
    subst (λ (n : ℕ). OnOk c.end_object.result (c.end_object.new.self ≡ old ++ json_tokens (object_of ((codes "name", values.string c.args.relation.now) ∷ (codes "arity", count c.args.arity) ∷ (codes "rows", count n) ∷ []))))
    c.row_count-rows.ensures
    (put_then old c.count_member-2.new.self c.end_object.new.self (((one ++ two) ++ three) ++ four) (end_object ∷ []) c.end_object.result
    (put_both old c.count_member.new.self c.count_member-2.new.self ((one ++ two) ++ three) four
    (put_both old c.text_member.new.self c.count_member.new.self (one ++ two) three
    (put_both old c.begin_object.new.self c.text_member.new.self one two c.in_ok-begin_object.ensures c.in_ok-text_member.ensures) c.in_ok-count_member.ensures) c.in_ok-count_member-2.ensures) c.end_object.ensures)
