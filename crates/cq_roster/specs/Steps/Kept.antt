-- What ties the seats by their numbers to the numbers by their names.
use Rattle.std.specs.Prelude.{◌≡◌, ℕ, ◌<◌, cond, List, [], ◌∷◌, Option, Some, None}
use Rattle.std.specs.Option.{option_map}
use Rattle.std.specs.List.{AllByRecursion}
use Rattle.std.specs.List.Sorted.{IsStrictlySortedBy}
use Rattle.std.specs.Map.{lookup, keys_of, values_of}
use Rattle.std.specs.Ordering.{nat_cmp}
use Rattle.std.specs.Str.{bytes_eq}
use Rattle.cq_roster.specs.Roster.{SeatRecord, is_named, IsRoster}

-- The first entry whose seat has the name.
abbrev pub entry_named : List ℕ → List (ℕ × SeatRecord) → Option (ℕ × SeatRecord)
entry_named name [] = None
entry_named name (e ∷ es) = cond (is_named name e.1) (Some e) (entry_named name es)

-- The number of the seat of that name.
abbrev pub number_named : List ℕ → List (ℕ × SeatRecord) → Option ℕ
number_named name es = option_map (λ e. e.0) (entry_named name es)

-- The numbers by their names are those of the seats; the seats stand by rising numbers, and all of these lie below the next one.
pub record IsKept (order : List (ℕ × SeatRecord)) (numbers : List (List ℕ × ℕ)) (next : ℕ) : Type 0 where
  pub numbered : (name : List ℕ) → lookup (bytes_eq name) numbers ≡ number_named name order
  pub rising : IsStrictlySortedBy nat_cmp (keys_of order)
  pub below : AllByRecursion (λ e. e.0 < next) order
  pub valid : IsRoster (values_of order)
