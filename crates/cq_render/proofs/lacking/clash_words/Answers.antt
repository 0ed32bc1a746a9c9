use Rattle.std.proofs.Common.{◌≡◌, ◌∙◌, ◌++◌, List, ℕ, subst, ap, codes, string_bytes, IfOk}
use Rattle.std.specs.Prelude.{decimal}
use Rattle.cq_render.proofs.lacking.clash_words.Goals as goal

pub returns : goal.returns
returns g c =
    let line : List ℕ → List ℕ → List ℕ = λ atom rows. codes ": " ++ (atom ++ (codes ": 0 of " ++ (decimal c.args.found.now.rows ++ (codes " " ++ (rows ++ codes " with the atoms before it"))))) in
    let rows = c.rows_word-rows.result.now in
    let told = ap (λ atom. line atom rows) (c.as_str-atom.ensures.value ∙ c.in_ok-atom.ensures.printed) ∙ ap (line _) c.rows_word-rows.ensures in
    subst (λ (bytes : List ℕ). IfOk c.format.result (λ text. string_bytes text ≡ bytes)) told c.format.ensures.ok
