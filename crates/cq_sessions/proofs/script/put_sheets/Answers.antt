use Rattle.std.proofs.Common.{◌+◌, [], ◌∷◌, drop, map}
use Rattle.std.specs.Prelude.{string_bytes}
use Rattle.cq_sessions.specs.Script.{sheets_from}
use Rattle.cq_board.proofs.CallerLemmas.{read_at}
use Rattle.cq_render.proofs.CallerLemmas.{put_on}
use Rattle.cq_sessions.proofs.Pages.{sheets_step}
use Rattle.cq_sessions.proofs.script.put_sheets.Goals as goal

pub loop-number-preserved : goal.loop-number-preserved
loop-number-preserved g c =
    let i = c.loop-number.number in
    let sheets = c.args.sheets.now in
    let item = c.index-sheets-number.result in
    put_on (string_bytes c.loop-number.page) (string_bytes c.put_sheet.new.page) (sheets_from i (item.replies ∷ [])) _ (sheets_from (i + 1) (map (λ sheet. sheet.replies) (drop (i + 1) sheets))) _
    (sheets_step (λ sheet. sheet.replies) sheets i item (read_at sheets i item c.loop-number-test.true c.index-sheets-number.is)) c.loop-number.invariant c.in_ok-put_sheet.ensures
