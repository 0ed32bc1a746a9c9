use Rattle.std.proofs.Common.{◌≡◌, ◌++◌, append_assoc}
use Rattle.std.specs.Prelude.{codes, decimal, string_bytes, IfOk}
use Rattle.cq_render.proofs.graphing.gap_box.Goals as goal

pub returns : goal.returns
returns g c =
    let written : IfOk c.format.result (λ text. string_bytes text ≡ codes "  n" ++ (decimal c.args.waiter ++ (codes "_" ++ (decimal c.args.post ++ codes " [label=\"no provider\", shape=plaintext];\n")))) = c.format.ensures.ok in
    simp append_assoc written
