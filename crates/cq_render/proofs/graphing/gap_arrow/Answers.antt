use Rattle.std.proofs.Common.{◌≡◌, ◌++◌, ◌∙◌, ℕ, List, subst, append_assoc}
use Rattle.std.specs.Prelude.{codes, decimal, string_bytes, IfOk}
use Rattle.cq_text.specs.Print.{escaped, printed_atom}
use Rattle.cq_render.specs.Graph.{gap_arrow}
use Rattle.cq_render.proofs.graphing.gap_arrow.Goals as goal

abbrev pieces : ℕ → ℕ → List ℕ → List ℕ
pieces w p words = codes "  n" ++ (decimal w ++ (codes "_" ++ (decimal p ++ (codes " -> q" ++ (decimal w ++ (codes " [label=\"post " ++ (decimal p ++ (codes " " ++ (words ++ codes "\", style=dotted];\n")))))))))

whole : (w p : ℕ) (words : List ℕ) → pieces w p words ≡ gap_arrow w p words
whole w p words = simp append_assoc

pub returns : goal.returns
returns g c =
    let atom : c.as_str-atom.result.now ≡ escaped (printed_atom c.args.wanted.now) = c.as_str-atom.ensures.value ∙ c.in_ok-atom.ensures in
    let written : IfOk c.format.result (λ text. string_bytes text ≡ pieces c.args.waiter c.args.post c.as_str-atom.result.now) = c.format.ensures.ok in
    subst (λ (words : List ℕ). IfOk c.format.result (λ text. string_bytes text ≡ gap_arrow c.args.waiter c.args.post words)) atom
    (subst (λ (bytes : List ℕ). IfOk c.format.result (λ text. string_bytes text ≡ bytes)) (whole c.args.waiter c.args.post c.as_str-atom.result.now) written)
