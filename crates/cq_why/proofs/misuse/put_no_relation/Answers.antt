use Rattle.std.proofs.Common.{◌≡◌, ◌++◌, ◌∙◌, List, ℕ, Option, map, ap, subst}
use Rattle.std.specs.Prelude.{codes, string_bytes, OnOk, option_map}
use Rattle.cq_rel.specs.Tables.{relation_of}
use Rattle.cq_why.specs.Why.{closest, meant}
use Rattle.cq_why.proofs.Puts.{put_three}
use Rattle.cq_why.proofs.misuse.put_no_relation.Goals as goal

pub returns : goal.returns
returns g c =
    let relation = c.args.relation.now in
    let names : map (λ name. name.now) c.deref.result.now ≡ map relation_of c.args.catalog.now = ap (map (λ name. name.now)) c.deref.ensures.value ∙ c.in_ok-names.ensures in
    let name : option_map (λ name. name.now) c.in_ok-closest.field-0 ≡ closest relation (map relation_of c.args.catalog.now) = c.in_ok-closest.ensures ∙ ap (closest relation) names in
    subst (λ (n : Option (List ℕ)). OnOk c.put_meant.result (string_bytes c.put_meant.new.page ≡ string_bytes c.args.page.now ++ (relation ++ (codes ": no such relation" ++ meant n)))) name
    (put_three (string_bytes c.args.page.now) (string_bytes c.push_str.new.self) (string_bytes c.push_str-2.new.self) (string_bytes c.put_meant.new.page) relation (codes ": no such relation") (meant (option_map (λ name. name.now) c.in_ok-closest.field-0)) c.put_meant.result
    c.in_ok-push_str.ensures.bytes c.in_ok-push_str-2.ensures.bytes c.put_meant.ensures)
