use Rattle.std.proofs.Common.{◌≡◌, ℕ, ◌<◌, ◌==◌, [], map, if◌then◌else◌}
use Rattle.std.specs.Prelude.{slice_index_or}
use Rattle.cq_sessions.specs.Sessions.{entered_by}
use Rattle.cq_sessions.specs.Steps.Sheets.{numbers_of}
use Rattle.cq_sessions.proofs.telling.have_numbers.Given as goal

abbrev pub invariant-loop-place : goal.invariant-loop-place
invariant-loop-place g l = (session : ℕ) → session < l.place → numbers_of (entered_by session 1 l.journal) ≡ (if session == 0 then l.first else slice_index_or (map (λ sheet. sheet.numbers) l.sheets) session [])
