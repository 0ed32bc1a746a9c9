-- What stands between items.
use Rattle.std.specs.Prelude.{ℕ, zero, suc, List, []}

-- Before the item at a place: the separator, but nothing before the first.
abbrev pub separated_by : List ℕ → ℕ → List ℕ
separated_by separator zero = []
separated_by separator (suc place) = separator
