use Rattle.std.proofs.Common.{◌+◌, drop}
use Rattle.std.specs.Prelude.{string_bytes}
use Rattle.cq_sessions.specs.Script.{entry_lines, entries_from}
use Rattle.cq_board.proofs.CallerLemmas.{read_at}
use Rattle.cq_render.proofs.CallerLemmas.{put_on}
use Rattle.cq_sessions.proofs.Pages.{entries_step}
use Rattle.cq_sessions.proofs.script.put_entries.Goals as goal

pub loop-place-preserved : goal.loop-place-preserved
loop-place-preserved g c =
    let i = c.loop-place.place in
    let entry = c.index-journal-place.result in
    put_on (string_bytes c.loop-place.page) (string_bytes c.put_entry.new.page) (entry_lines (i + 1) entry) _ (entries_from (i + 1 + 1) (drop (i + 1) c.args.journal.now)) _
    (entries_step c.args.journal.now i entry (read_at c.args.journal.now i entry c.loop-place-test.true c.index-journal-place.is)) c.loop-place.invariant c.in_ok-put_entry.ensures
