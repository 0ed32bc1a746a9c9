use Rattle.std.proofs.Common.{◌≡◌, ◌++◌, ◌∙◌, List, ℕ, map, ap, sym, subst}
use Rattle.std.specs.Prelude.{string_bytes, OnOk}
use Rattle.cq_why.proofs.Puts.{found_nothing, found_other, found_variable}
use Rattle.cq_why.proofs.hint.put_found_words.Goals as goal

pub returns-then-is_variable : goal.returns-then-is_variable
returns-then-is_variable g c =
    subst (λ (words : List ℕ). OnOk c.put_found_and.result (string_bytes c.put_found_and.new.page ≡ string_bytes c.args.page.now ++ words))
    (found_variable (λ word. word.now) c.args.words.now c.args.rest.now (sym c.is_variable.ensures ∙ c.if-is_variable.true)) c.put_found_and.ensures

pub returns-else-is_variable : goal.returns-else-is_variable
returns-else-is_variable g c =
    subst (λ (words : List ℕ). OnOk c.put_front_and.result (string_bytes c.put_front_and.new.page ≡ string_bytes c.args.page.now ++ words))
    (found_other (λ word. word.now) c.args.words.now c.args.rest.now (sym c.is_empty.ensures ∙ c.if-is_empty.false) (sym c.is_variable.ensures ∙ c.if-is_variable.false)) c.put_front_and.ensures

pub returns-then-is_empty : goal.returns-then-is_empty
returns-then-is_empty g c =
    c.in_ok-push_str.ensures.bytes
    ∙ ap (λ (words : List ℕ). string_bytes c.args.page.now ++ words) (found_nothing (map (λ word. word.now) c.args.words.now) c.args.rest.now (sym c.is_empty.ensures ∙ c.if-is_empty.true))
