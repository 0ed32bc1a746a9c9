use Rattle.std.specs.Prelude.{◌++◌, string_bytes}
use Rattle.std.specs.List.{flat_map}
use Rattle.std.proofs.lemmas.Result.{on_ok_weaker}
use Rattle.cq_sessions.specs.Script.{form_line, declaration_line, limits_line}
use Rattle.cq_render.proofs.CallerLemmas.{put_both}
use Rattle.cq_sessions.proofs.script.put_setup.Goals as goal

pub returns : goal.returns
returns g c =
    let front = put_both (string_bytes c.args.page.now) (string_bytes c.put_form.new.page) (string_bytes c.put_catalog.new.page) (form_line c.args.form) (flat_map declaration_line c.args.catalog.now) c.in_ok-put_form.ensures c.in_ok-put_catalog.ensures in
    on_ok_weaker c.put.result
    (λ e. put_both (string_bytes c.args.page.now) (string_bytes c.put_catalog.new.page) (string_bytes c.put.new.page) (form_line c.args.form ++ flat_map declaration_line c.args.catalog.now) (limits_line c.args.limits) front e)
    (c.put.ensures (limits_line c.args.limits) c.limits_line.ensures)
