use Rattle.std.proofs.Common.{◌≡◌, ◌++◌, ◌∙◌, ap, ℕ, List, codes, subst}
use Rattle.std.specs.Prelude.{string_bytes}
use Rattle.std.specs.List.{join_by}
use Rattle.std.proofs.lemmas.List.{take_all}
use Rattle.cq_going.proofs.Separated.{item_more}
use Rattle.cq_going.proofs.grouping.put_names.Goals as goal

pub loop-place-preserved : goal.loop-place-preserved
loop-place-preserved g c =
    item_more (λ (n : List ℕ). n) (codes " ") _ _ _ _ _ _ _ c.loop-place-test.true c.index-names-place.is c.loop-place.invariant c.in_ok-put_separator.ensures
    (c.in_ok-push_str.ensures.bytes ∙ ap (λ (text : List ℕ). string_bytes c.put_separator.new.page ++ text) c.as_str.ensures.bytes)

pub returns : goal.returns
returns g c =
    subst (λ (xs : List (List ℕ)). string_bytes c.loop-place.page ≡ string_bytes c.args.page.now ++ join_by (λ n. n) (codes " ") xs) (take_all c.loop-place.place c.args.names.now c.loop-place-test.false) c.loop-place.invariant
