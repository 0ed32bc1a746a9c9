-- What stands between printed items.
use Rattle.std.specs.Prelude.{ℕ, zero, suc, List, [], codes}

-- Before the item at a place: a comma and a space, but nothing before the first.
abbrev pub separator_at : ℕ → List ℕ
separator_at zero = []
separator_at (suc place) = codes ", "
