use Rattle.std.proofs.Common.{length, map, sym, ◌∙◌}
use Rattle.cq_sessions.specs.Steps.Sheets.{SheetRecord}
use Rattle.cq_sessions.proofs.Rooms.{length_map}
use Rattle.cq_sessions.proofs.Told.{told-each, where_true}
use Rattle.cq_sessions.proofs.telling.is_told.Goals as goal

pub returns : goal.returns
returns g c = let lists = map (λ sheet. sheet.numbers) c.args.sheets.now in
    where_true c.have_numbers.result (λ each. told-each c.args.journal.now _ c.args.setup.now.numbers lists (length c.args.sheets.now) (sym (length_map (λ (s : SheetRecord). s.numbers) c.args.sheets.now)) (c.deref.ensures.value ∙ c.in_ok-first.ensures) c.if-not-has_authors.ensures each) c.have_numbers.ensures
