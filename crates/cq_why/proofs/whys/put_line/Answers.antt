use Rattle.std.specs.Prelude.{string_bytes}
use Rattle.std.proofs.lemmas.Result.{on_ok_weaker}
use Rattle.cq_why.proofs.Told.{told_at}
use Rattle.cq_why.proofs.whys.put_line.Goals as goal

pub returns : goal.returns
returns g c =
    on_ok_weaker c.put_refusal.result
    (told_at c.args.origin.now c.args.limits c.args.catalog.now c.args.heard.now c.hear.new.self c.args.number c.form-form.result c.args.line.now c.in_ok-refused.refused (string_bytes c.args.page.now) (string_bytes c.put_refusal.new.page)
    c.form-form.ensures c.in_ok-refused.ensures.heard)
    c.put_refusal.ensures
