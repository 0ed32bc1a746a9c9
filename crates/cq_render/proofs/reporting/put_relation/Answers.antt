use Rattle.std.proofs.Common.{◌≡◌, ◌++◌, append_assoc}
use Rattle.std.specs.Prelude.{codes, decimal, string_bytes, OnOk}
use Rattle.cq_render.proofs.reporting.put_relation.Goals as goal

pub returns : goal.returns
returns g c =
    let written : OnOk c.write.result (string_bytes c.write.new.self ≡ string_bytes c.args.page.now ++ (codes "relation " ++ (c.args.relation.now ++ (codes " " ++ (decimal c.args.arity ++ (codes " rows " ++ (decimal c.row_count-count.result ++ codes "\n"))))))) = c.write.ensures.bytes in
    simp append_assoc (rw (← c.row_count-count.ensures) written)
