use Rattle.std.proofs.Common.{◌≡◌, ◌++◌, append_assoc}
use Rattle.std.specs.Prelude.{codes, decimal, string_bytes, OnOk}
use Rattle.cq_render.proofs.reporting.put_count.Goals as goal

pub returns : goal.returns
returns g c =
    let written : OnOk c.write.result (string_bytes c.write.new.self ≡ string_bytes c.args.page.now ++ (codes "  post " ++ (decimal c.args.post ++ (codes " providers " ++ (decimal c.args.count ++ (c.crowd_word-crowd.result.now ++ codes "\n")))))) = c.write.ensures.bytes in
    simp append_assoc (rw (← c.crowd_word-crowd.ensures) written)
