use Rattle.std.proofs.Common.{◌≡◌, ◌∙◌, ◌++◌, ℕ, List, subst}
use Rattle.std.specs.Prelude.{IfOk, codes, string_bytes}
use Rattle.cq_ask.proofs.data.member.Goals as goal

pub returns : goal.returns
returns g c =
    subst (λ (text : List ℕ). IfOk c.format.result (λ member. string_bytes member ≡ codes ",\"" ++ (c.args.name.now ++ (codes "\":" ++ text)))) (c.as_str-text.ensures.value ∙ c.into_text-text.ensures) c.format.ensures.ok
