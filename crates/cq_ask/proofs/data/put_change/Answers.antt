use Rattle.std.proofs.Common.{◌≡◌, ◌∙◌, ◌++◌, ◌∷◌, [], ℕ, List, subst, ap}
use Rattle.std.specs.Prelude.{codes}
use Rattle.json.specs.Json as values
use Rattle.json.specs.Token.{key, string}
use Rattle.cq_board.specs.Named.{matched_named}
use Rattle.cq_render.specs.Data.{standing_word, standing_members}
use Rattle.cq_render.proofs.CallerLemmas.{put_both, put_object}
use Rattle.cq_ask.proofs.data.put_change.Goals as goal

pub returns : goal.returns
returns g c =
    let now = c.args.now.now in
    let name = c.args.name.now in
    let first = c.begin_object.new.self in
    let one = key (codes "name") ∷ string name ∷ [] in
    let two = key (codes "state") ∷ string (standing_word (matched_named name now)) ∷ [] in
    let three = key (codes "change") ∷ string c.args.word.now ∷ [] in
    let named = subst (λ (text : List ℕ). c.text_member.new.self ≡ first ++ key (codes "name") ∷ string text ∷ []) c.as_str.ensures.bytes c.in_ok-text_member.ensures in
    let standing = subst (λ (text : List ℕ). c.text_member-2.new.self ≡ c.text_member.new.self ++ key (codes "state") ∷ string text ∷ []) (c.standing_word.ensures ∙ ap standing_word c.is_matched.ensures) c.in_ok-text_member-2.ensures in
    put_object c.args.sheet.now first c.text_member-3.new.self c.end_object.new.self (standing_members now name ++ (codes "change", values.string c.args.word.now) ∷ []) c.end_object.result c.in_ok-begin_object.ensures
    (put_both first c.text_member-2.new.self c.text_member-3.new.self (one ++ two) three (put_both first c.text_member.new.self c.text_member-2.new.self one two named standing) c.in_ok-text_member-3.ensures) c.end_object.ensures
