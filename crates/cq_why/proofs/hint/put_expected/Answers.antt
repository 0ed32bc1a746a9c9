use Rattle.std.proofs.Common.{◌≡◌, ◌++◌, ◌∙◌, List, ℕ, map, sym, subst}
use Rattle.std.specs.Prelude.{codes, string_bytes, OnOk}
use Rattle.cq_why.specs.Why.{one_of, limit_words}
use Rattle.cq_why.proofs.Puts.{put_by, put_two, expects_nothing, expects_some}
use Rattle.cq_why.proofs.hint.put_expected.Goals as goal

pub returns-in_ok-push_str : goal.returns-in_ok-push_str
returns-in_ok-push_str g c =
    let page = string_bytes c.args.page.now in
    let first = string_bytes c.push_str.new.self in
    let last = string_bytes c.push_str-then-is_empty.new.self in
    let put : OnOk c.push_str-then-is_empty.result (last ≡ first ++ limit_words c.args.form) =
    subst (λ (words : List ℕ). OnOk c.push_str-then-is_empty.result (last ≡ first ++ words)) c.limit_words.ensures (put_by first last (first ++ c.limit_words.result.now) c.push_str-then-is_empty.result c.push_str-then-is_empty.ensures.bytes) in
    subst (λ (words : List ℕ). OnOk c.push_str-then-is_empty.result (last ≡ page ++ words))
    (expects_nothing c.args.form (λ word. word.now) c.args.words.now (sym c.is_empty.ensures ∙ c.if-is_empty.true))
    (put_two page first last (codes "nothing may follow: ") (limit_words c.args.form) c.push_str-then-is_empty.result c.in_ok-push_str.ensures.bytes put)

pub returns-in_ok-push_str-2 : goal.returns-in_ok-push_str-2
returns-in_ok-push_str-2 g c =
    let page = string_bytes c.args.page.now in
    let first = string_bytes c.push_str-else-is_empty.new.self in
    let last = string_bytes c.put_one_of.new.page in
    subst (λ (words : List ℕ). OnOk c.put_one_of.result (last ≡ page ++ words))
    (expects_some c.args.form (λ word. word.now) c.args.words.now (sym c.is_empty.ensures ∙ c.if-is_empty.false))
    (put_two page first last (codes "expected ") (one_of (map (λ word. word.now) c.args.words.now)) c.put_one_of.result c.in_ok-push_str-2.ensures.bytes c.put_one_of.ensures)
