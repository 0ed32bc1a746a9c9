-- Rosters: the names of what is pending in the order in which they came, each with its place. (this project's profile)
use Rattle.std.specs.Prelude.{ℕ, Bool, not, nat_eq, List, map, filter, find, Option}
use Rattle.std.specs.List.{list_any, IsDistinct}
use Rattle.std.specs.Option.{option_map}
use Rattle.std.specs.Str.{bytes_eq}
use Rattle.cq_roster.specs.declared.seat.Seat.{Seat}

-- A name by its bytes, and the place of what it names.
abbrev pub SeatRecord : Type 0
SeatRecord = Seat (List ℕ)

-- The seat of these two.
abbrev pub seat_of : List ℕ → ℕ → SeatRecord
seat_of name place = record { name = name; place = place }

-- The seat has the name.
abbrev pub is_named : List ℕ → SeatRecord → Bool
is_named name seat = bytes_eq name seat.name

-- The place of the seat of that name, where there is one.
abbrev pub place_named : List ℕ → List SeatRecord → Option ℕ
place_named name seats = option_map (λ seat. seat.place) (find (is_named name) seats)

-- Some seat has the place.
abbrev pub is_taken_place : ℕ → List SeatRecord → Bool
is_taken_place place seats = list_any (nat_eq place) (map (λ seat. seat.place) seats)

-- The seats but that of the name.
abbrev pub without : List ℕ → List SeatRecord → List SeatRecord
without name seats = filter (λ seat. not (is_named name seat)) seats

-- What all rosters are: no two seats have one name, and no two have one place.
pub record IsRoster (seats : List SeatRecord) : Type 0 where
  pub names : IsDistinct bytes_eq (map (λ seat. seat.name) seats)
  pub places : IsDistinct nat_eq (map (λ seat. seat.place) seats)
