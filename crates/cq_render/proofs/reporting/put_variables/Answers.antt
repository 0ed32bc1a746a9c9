use Rattle.std.proofs.Common.{◌≡◌, ◌++◌, List, ℕ, ap, ◌∙◌, append_assoc}
use Rattle.std.specs.Prelude.{codes, decimal, string_bytes, OnOk}
use Rattle.std.specs.List.{join_by}
use Rattle.cq_atom.specs.Query.{variables_of}
use Rattle.cq_render.proofs.Pieces.{join_map}
use Rattle.cq_render.proofs.reporting.put_variables.Goals as goal

pub returns : goal.returns
returns g c =
    let names : c.as_str-names.result.now ≡ join_by (λ name. name) (codes ", ") (variables_of c.args.query.now.body) =
    c.as_str-names.ensures.value ∙ c.in_ok-names.ensures.ok ∙ join_map string_bytes (codes ", ") c.variables.result.now ∙ ap (λ (ns : List (List ℕ)). join_by (λ name. name) (codes ", ") ns) c.variables.ensures in
    let written : OnOk c.write.result (string_bytes c.write.new.self ≡ string_bytes c.args.page.now ++ (codes "  groundings " ++ (decimal c.args.count ++ (codes " (" ++ (c.as_str-names.result.now ++ codes ")\n"))))) = c.write.ensures.bytes in
    simp append_assoc (rw (← names) written)
