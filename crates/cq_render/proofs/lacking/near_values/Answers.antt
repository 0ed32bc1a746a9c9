use Rattle.std.proofs.Common.{◌≡◌, ◌++◌, ◌∙◌, List, [], ◌∷◌, ℕ, true, false, refl, map, ap, subst, sym}
use Rattle.std.specs.Prelude.{codes, string_bytes, length, ◌==◌, IfOk}
use Rattle.std.specs.List.{join_by}
use Rattle.cq_atom.specs.Value.{ValueContent}
use Rattle.cq_text.specs.Print.{printed_value}
use Rattle.cq_render.specs.Hints.{near_values}
use Rattle.cq_render.proofs.Pieces.{join_map}
use Rattle.cq_render.proofs.lacking.near_values.Goals as goal

told : {X : Type 0} (read : X → ValueContent) (values : List X) → (length values == 0) ≡ false → codes "; near " ++ join_by printed_value (codes ", ") (map read values) ≡ near_values (map read values)
told read [] many = absurd (let never : true ≡ false = many in cc)
told read (v ∷ values) many = refl

pub returns : goal.returns
returns g c =
    let values = c.args.values.now in
    let words = c.in_ok-words.words.items in
    let many : (length values == 0) ≡ false = sym c.is_empty.ensures ∙ c.if-is_empty.false in
    let joined : c.as_str-joined.result.now ≡ join_by printed_value (codes ", ") (map (λ v. v.now) values) =
    c.as_str-joined.ensures.value ∙ c.in_ok-joined.ensures.ok ∙ ap (join_by string_bytes (codes ", ")) c.deref.ensures.value ∙ join_map string_bytes (codes ", ") words
    ∙ ap (join_by (λ (text : List ℕ). text) (codes ", ")) c.in_ok-words.ensures ∙ sym (join_map printed_value (codes ", ") (map (λ v. v.now) values)) in
    let written : IfOk c.format.result (λ text. string_bytes text ≡ codes "; near " ++ c.as_str-joined.result.now) = c.format.ensures.ok in
    subst (λ (bytes : List ℕ). IfOk c.format.result (λ text. string_bytes text ≡ bytes)) (ap (λ (words : List ℕ). codes "; near " ++ words) joined ∙ told (λ v. v.now) values many) written
