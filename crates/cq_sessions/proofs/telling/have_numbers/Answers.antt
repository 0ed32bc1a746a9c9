use Rattle.std.proofs.Common.{◌≡◌, ◌==◌, [], map, sym, ap, ◌∙◌, if◌then◌else◌}
use Rattle.std.proofs.Math.ListN.{get_or-map}
use Rattle.std.specs.Prelude.{slice_index_or}
use Rattle.std.proofs.lemmas.List.{get_or_default}
use Rattle.cq_sessions.specs.Steps.Sheets.{SheetRecord, blank}
use Rattle.cq_sessions.proofs.Told.{numbers-on}
use Rattle.cq_sessions.proofs.telling.have_numbers.Goals as goal

pub loop-place-preserved : goal.loop-place-preserved
loop-place-preserved g c = let at = c.loop-place in let sheet = c.index-sheets-place.result in
    let numbers = map (λ (s : SheetRecord). s.numbers) c.args.sheets.now in
    let here : sheet.numbers ≡ slice_index_or numbers at.place [] =
    ap (λ (s : SheetRecord). s.numbers) (c.index-sheets-place.is ∙ get_or_default c.args.sheets.now at.place sheet blank c.loop-place-test.true) ∙ sym (get_or-map (λ (s : SheetRecord). s.numbers) c.args.sheets.now at.place blank) in
    numbers-on c.args.journal.now c.args.first.now numbers at.place _ (c.numbers_at.ensures ∙ ap (λ z. if at.place == 0 then c.args.first.now else z) here) c.if-not-has_numbers.ensures at.invariant
