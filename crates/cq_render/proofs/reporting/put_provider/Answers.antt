use Rattle.std.proofs.Common.{◌≡◌, ◌++◌, append_assoc}
use Rattle.std.specs.Prelude.{codes, decimal, string_bytes, OnOk}
use Rattle.cq_render.proofs.reporting.put_provider.Goals as goal

pub returns : goal.returns
returns g c =
    let written : OnOk c.write.result (string_bytes c.write.new.self ≡ string_bytes c.args.page.now ++ (codes "    " ++ (c.name_or_none-name.result.now ++ (codes " head " ++ (decimal c.args.edge.now.head ++ codes "\n"))))) = c.write.ensures.bytes in
    simp append_assoc (rw (← c.name_or_none-name.ensures) written)
