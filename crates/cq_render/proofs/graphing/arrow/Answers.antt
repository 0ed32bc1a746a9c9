use Rattle.std.proofs.Common.{◌≡◌, ◌++◌, append_assoc}
use Rattle.std.specs.Prelude.{codes, decimal, string_bytes, IfOk}
use Rattle.cq_render.proofs.graphing.arrow.Goals as goal

pub returns : goal.returns
returns g c =
    let written : IfOk c.format.result (λ text. string_bytes text ≡ codes "  q" ++ (decimal c.args.edge.now.provider ++ (codes " -> q" ++ (decimal c.args.edge.now.waiter ++ (codes " [label=\"head " ++ (decimal c.args.edge.now.head ++ (codes ", post " ++ (decimal c.args.edge.now.post ++ (c.crowd_mark-mark.result.now ++ codes "];\n"))))))))) = c.format.ensures.ok in
    simp append_assoc (rw (← c.crowd_mark-mark.ensures) written)
