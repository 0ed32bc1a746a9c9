use Rattle.std.proofs.Common.{◌≡◌, ◌++◌, ℕ, List, subst, append_assoc}
use Rattle.std.specs.Prelude.{codes, decimal, string_bytes, IfOk}
use Rattle.cq_going.specs.Boxes.{boxed}
use Rattle.cq_going.proofs.boxing.boxed.Goals as goal

abbrev pieces : ℕ → ℕ → List ℕ
pieces label place = codes "  subgraph cluster_" ++ (decimal label ++ (codes " { q" ++ (decimal place ++ codes "; }\n")))

whole : (label place : ℕ) → pieces label place ≡ boxed label place
whole label place = simp append_assoc

pub returns : goal.returns
returns g c =
    let written : IfOk c.format.result (λ text. string_bytes text ≡ pieces c.args.label c.args.place) = c.format.ensures.ok in
    subst (λ (bytes : List ℕ). IfOk c.format.result (λ text. string_bytes text ≡ bytes)) (whole c.args.label c.args.place) written
