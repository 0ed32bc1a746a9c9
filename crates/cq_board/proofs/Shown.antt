-- The name at a number of the pending queries is that of the seat there.
use Rattle.std.proofs.Common.{◌≡◌, ℕ, List, sym, ap, ◌∙◌}
use Rattle.std.specs.Prelude.{option_map}
use Rattle.std.specs.List.{slice_get}
use Rattle.std.proofs.lemmas.Option.{slice_get-map}
use Rattle.cq_roster.specs.Roster.{SeatRecord}
use Rattle.cq_board.specs.Pool.{name_of}
use Rattle.cq_board.specs.Board.{name_at}
use Rattle.cq_board.specs.Steps.Stores.{StoresRecord, pending_of}
use Rattle.cq_board.proofs.Stored.{pending-named}

pub name_seated : (content : StoresRecord) (n : ℕ) → option_map (λ s. s.name) (slice_get content.seats n) ≡ name_at (pending_of content) n
name_seated content n =
    sym (slice_get-map (λ (s : SeatRecord). s.name) content.seats n)
    ∙ ap (λ (names : List (List ℕ)). slice_get names n) (sym (pending-named content.seats content.grounded))
    ∙ slice_get-map name_of (pending_of content) n
