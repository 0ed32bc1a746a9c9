use Rattle.std.proofs.Common.{◌≡◌, ◌++◌, ℕ, List, subst}
use Rattle.std.specs.Prelude.{string_bytes}
use Rattle.cq_render.specs.Report.{name_line, text_line}
use Rattle.cq_render.proofs.Pages.{put_then}
use Rattle.cq_render.proofs.reporting.put_heading.Goals as goal

pub returns : goal.returns
returns g c =
    let named = name_line c.args.name.now c.args.matched in
    let first = subst (λ (name : List ℕ). string_bytes c.put_name.new.page ≡ string_bytes c.args.page.now ++ name_line name c.args.matched) c.as_str.ensures.bytes c.in_ok-put_name.ensures in
    put_then (string_bytes c.args.page.now) (string_bytes c.put_name.new.page) (string_bytes c.put_text.new.page) named (text_line c.args.query.now) c.put_text.result first c.put_text.ensures
