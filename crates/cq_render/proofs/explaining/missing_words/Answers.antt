use Rattle.std.proofs.Common.{◌≡◌, ◌++◌, ◌∙◌, List, ℕ, false, map, ap, subst, sym}
use Rattle.std.specs.Prelude.{codes, string_bytes, length, ◌==◌, IfOk}
use Rattle.std.specs.List.{join_by}
use Rattle.cq_render.proofs.Pieces.{join_map}
use Rattle.cq_render.proofs.Explained.{missing_some}
use Rattle.cq_render.proofs.explaining.missing_words.Goals as goal

pub returns : goal.returns
returns g c =
    let words = c.args.near.now in
    let many : (length words == 0) ≡ false = sym c.is_empty.ensures ∙ c.if-is_empty.false in
    let joined : c.as_str-joined.result.now ≡ join_by (λ (text : List ℕ). text) (codes ", ") (map string_bytes words) =
    c.as_str-joined.ensures.value ∙ c.in_ok-joined.ensures.ok ∙ join_map string_bytes (codes ", ") words in
    let written : IfOk c.format.result (λ text. string_bytes text ≡ codes "no provider; near: " ++ c.as_str-joined.result.now) = c.format.ensures.ok in
    subst (λ (bytes : List ℕ). IfOk c.format.result (λ text. string_bytes text ≡ bytes))
    (ap (λ (words : List ℕ). codes "no provider; near: " ++ words) joined ∙ missing_some string_bytes words many) written
