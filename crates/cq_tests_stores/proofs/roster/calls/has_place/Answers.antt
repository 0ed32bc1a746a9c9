use Rattle.std.proofs.Common.{◌≡◌, ℕ, nat_eq, List, [], ◌∷◌, map, refl, ap, ◌∙◌, ◌||◌}
use Rattle.std.specs.Borrow.{Bor}
use Rattle.std.specs.List.{list_any}
use Rattle.cq_roster.specs.Roster.{SeatRecord, is_taken_place}
use Rattle.cq_tests_stores.proofs.roster.calls.has_place.Goals as goal

-- the places of what is referred to
taken : (place : ℕ) (seats : List (Bor SeatRecord)) → list_any (λ seat. nat_eq place seat.now.place) seats ≡ is_taken_place place (map (λ seat. seat.now) seats)
taken place [] = refl
taken place (s ∷ ss) = ap (λ b. nat_eq place s.now.place || b) (taken place ss)

pub returns : goal.returns
returns g c = c.is_among.ensures ∙ (ap (list_any (λ seat. nat_eq c.args.place seat.now.place)) c.deref.ensures.value ∙ (taken c.args.place c.in_ok-seats.seats.items ∙ ap (is_taken_place c.args.place) c.in_ok-seats.ensures))
