use Rattle.std.proofs.Common.{◌++◌, map}
use Rattle.std.specs.Prelude.{codes, string_bytes}
use Rattle.std.proofs.lemmas.Result.{on_ok_weaker}
use Rattle.cq_sessions.specs.Script.{replies_from, sheets_from}
use Rattle.cq_render.proofs.CallerLemmas.{put_both}
use Rattle.cq_sessions.proofs.files.put_behind.Goals as goal

pub returns : goal.returns
returns g c =
    let first = codes "publish\nshow\n" in
    let setup = replies_from (codes "setup") 1 c.args.setup.now.replies in
    let files = sheets_from 0 (map (λ sheet. sheet.replies) c.args.sheets.now) in
    let page = string_bytes c.args.page.now in let page2 = string_bytes c.put_replies.new.page in
    on_ok_weaker c.put_sheets.result
    (λ e. put_both page page2 (string_bytes c.put_sheets.new.page) (first ++ setup) files (put_both page (string_bytes c.push_str.new.self) page2 first setup c.in_ok-push_str.ensures.bytes c.in_ok-put_replies.ensures) e)
    c.put_sheets.ensures
