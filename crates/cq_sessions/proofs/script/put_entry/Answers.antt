use Rattle.std.proofs.Common.{◌++◌}
use Rattle.std.specs.Prelude.{codes, decimal, string_bytes}
use Rattle.std.proofs.lemmas.Result.{on_ok_weaker}
use Rattle.cq_render.specs.Report.{line}
use Rattle.cq_sessions.specs.Script.{edit_line}
use Rattle.cq_render.proofs.CallerLemmas.{put_both}
use Rattle.cq_sessions.proofs.script.put_entry.Goals as goal

pub returns : goal.returns
returns g c =
    let author = line (codes "# entry " ++ decimal c.args.number ++ codes " session " ++ decimal c.args.entry.now.author) in
    let asked = edit_line c.args.entry.now.edit in
    on_ok_weaker c.put-2.result
    (λ e. put_both (string_bytes c.args.page.now) (string_bytes c.put.new.page) (string_bytes c.put-2.new.page) author asked (c.in_ok-put.ensures author c.author_line.ensures) e)
    (c.put-2.ensures asked c.edit_line.ensures)
