use Rattle.std.proofs.Common.{◌≡◌, ◌++◌, ◌∙◌, List, ℕ, Option, map, ap, subst}
use Rattle.std.specs.Prelude.{codes, string_bytes, OnOk, option_map}
use Rattle.cq_why.specs.Why.{closest, found, meant}
use Rattle.cq_why.proofs.Puts.{put_three}
use Rattle.cq_why.proofs.hint.put_no_command.Goals as goal

pub returns : goal.returns
returns g c =
    let rest = c.args.rest.now in
    let words : List (List ℕ) = map (λ word. word.now) c.args.words.now in
    let made : string_bytes c.put_found.new.page ≡ found rest = c.in_ok-put_found.ensures ∙ ap (λ (bytes : List ℕ). bytes ++ found rest) c.new-word.ensures.bytes in
    let one : c.as_str.result.now ≡ found rest = c.as_str.ensures.value ∙ made in
    let two : c.as_str-2.result.now ≡ found rest = c.as_str-2.ensures.value ∙ made in
    let name : option_map (λ name. name.now) c.in_ok-closest.field-0 ≡ closest (found rest) words = c.in_ok-closest.ensures ∙ ap (λ (word : List ℕ). closest word words) two in
    subst (λ (n : Option (List ℕ)). OnOk c.put_meant.result (string_bytes c.put_meant.new.page ≡ string_bytes c.args.page.now ++ (found rest ++ (codes ": no such command" ++ meant n)))) name
    (subst (λ (word : List ℕ). OnOk c.put_meant.result (string_bytes c.put_meant.new.page ≡ string_bytes c.args.page.now ++ (word ++ (codes ": no such command" ++ meant (option_map (λ name. name.now) c.in_ok-closest.field-0))))) one
    (put_three (string_bytes c.args.page.now) (string_bytes c.push_str.new.self) (string_bytes c.push_str-2.new.self) (string_bytes c.put_meant.new.page) c.as_str.result.now (codes ": no such command") (meant (option_map (λ name. name.now) c.in_ok-closest.field-0)) c.put_meant.result
    c.in_ok-push_str.ensures.bytes c.in_ok-push_str-2.ensures.bytes c.put_meant.ensures))
