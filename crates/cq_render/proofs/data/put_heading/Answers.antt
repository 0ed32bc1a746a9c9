use Rattle.std.proofs.Common.{◌≡◌, ◌++◌, ◌∷◌, ◌∙◌, [], ℕ, List, subst}
use Rattle.std.specs.Prelude.{codes, OnOk}
use Rattle.json.specs.Token.{begin_object, key, string}
use Rattle.cq_text.specs.Print.{printed_query}
use Rattle.cq_render.specs.Report.{state_word}
use Rattle.cq_render.proofs.Pages.{put_both, put_then}
use Rattle.cq_render.proofs.data.put_heading.Goals as goal

pub returns : goal.returns
returns g c =
    let old = c.args.sheet.now in
    let word = λ (name text : List ℕ). key name ∷ string text ∷ [] in
    let begun = begin_object ∷ [] in
    let name = word (codes "name") c.args.name.now in
    let state = word (codes "state") (state_word c.args.matched) in
    let stood = subst (λ (text : List ℕ). c.text_member-2.new.self ≡ c.text_member.new.self ++ word (codes "state") text) c.state_word.ensures c.in_ok-text_member-2.ensures in
    let told = subst (λ (text : List ℕ). OnOk c.text_member-3.result (c.text_member-3.new.self ≡ c.text_member-2.new.self ++ word (codes "text") text)) (c.as_str.ensures.value ∙ c.in_ok-printed.ensures.printed) c.text_member-3.ensures in
    put_then old c.text_member-2.new.self c.text_member-3.new.self ((begun ++ name) ++ state) (word (codes "text") (printed_query c.args.query.now)) c.text_member-3.result
    (put_both old c.text_member.new.self c.text_member-2.new.self (begun ++ name) state
    (put_both old c.begin_object.new.self c.text_member.new.self begun name c.in_ok-begin_object.ensures c.in_ok-text_member.ensures) stood) told
