use Rattle.std.proofs.Common.{◌≡◌, ◌++◌, append_assoc}
use Rattle.std.specs.Prelude.{codes, string_bytes, OnOk}
use Rattle.cq_render.proofs.reporting.put_name.Goals as goal

pub returns : goal.returns
returns g c =
    let written : OnOk c.write.result (string_bytes c.write.new.self ≡ string_bytes c.args.page.now ++ (codes "query " ++ (c.args.name.now ++ (codes " " ++ (c.state_word-state.result.now ++ codes "\n"))))) = c.write.ensures.bytes in
    simp append_assoc (rw (← c.state_word-state.ensures) written)
