use Rattle.std.proofs.Common.{◌≡◌, ◌++◌, ◌∙◌, ℕ, List, length, map, ap, sym}
use Rattle.std.specs.Prelude.{codes, decimal, string_bytes, IfOk}
use Rattle.std.specs.List.{join_by}
use Rattle.std.proofs.lemmas.List.{length-map}
use Rattle.std.proofs.lemmas.Result.{IfOk-weaker}
use Rattle.cq_cli.proofs.Lines.{join_map, variables_put}
use Rattle.cq_cli.proofs.noting.variables_line.Goals as goal

pub returns : goal.returns
returns g c =
    let name = c.args.name.now in
    let variables = c.args.variables.now in
    let vs = map string_bytes variables in
    let n = length variables in
    let word = c.values_word-values.result.now in
    let listed : string_bytes c.in_ok-listed.listed ≡ join_by (λ v. v) (codes ", ") vs = c.in_ok-listed.ensures.ok ∙ sym (join_map string_bytes (codes ", ") variables) in
    let written : IfOk c.format.result (λ text. string_bytes text ≡ codes "board: " ++ (name ++ (codes " has " ++ (decimal n ++ (codes " " ++ (word ++ (string_bytes c.in_ok-listed.listed ++ codes ")\n"))))))) = c.format.ensures.ok in
    IfOk-weaker c.format.result _ _
    (λ text is.
    is ∙ ap (λ (l : List ℕ). codes "board: " ++ (name ++ (codes " has " ++ (decimal n ++ (codes " " ++ (word ++ (l ++ codes ")\n"))))))) listed
    ∙ ap (λ (w : List ℕ). codes "board: " ++ (name ++ (codes " has " ++ (decimal n ++ (codes " " ++ (w ++ (join_by (λ v. v) (codes ", ") vs ++ codes ")\n"))))))) c.values_word-values.ensures
    ∙ variables_put name n vs (sym (length-map variables string_bytes)))
    written
