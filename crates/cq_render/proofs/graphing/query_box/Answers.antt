use Rattle.std.proofs.Common.{◌≡◌, ◌++◌, append_assoc}
use Rattle.std.specs.Prelude.{codes, decimal, string_bytes, IfOk}
use Rattle.cq_render.proofs.graphing.query_box.Goals as goal

pub returns : goal.returns
returns g c =
    let shown = c.args.shown.now in
    let written : IfOk c.format.result (λ text. string_bytes text ≡ codes "  q" ++ (decimal shown.number ++ (codes " [label=\"" ++ (c.as_str-name.result.now ++ (codes "\\n" ++ (c.state_word-state.result.now ++ (codes "\", shape=box" ++ (c.border-border.result.now ++ codes "];\n")))))))) = c.format.ensures.ok in
    simp append_assoc (rw (← c.as_str-name.ensures.bytes, ← c.state_word-state.ensures, ← c.border-border.ensures) written)
