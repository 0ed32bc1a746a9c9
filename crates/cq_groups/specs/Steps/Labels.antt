-- How labels change by an edge.
use Rattle.std.specs.Prelude.{◌==◌, ℕ, List, map, slice_index, nat_lt, if◌then◌else◌}

-- The label, but the second for the first.
abbrev pub renamed : ℕ → ℕ → ℕ → ℕ
renamed from to label = if label == from then to else label

-- The labels once the ends of the pair have one: the lower of both.
abbrev pub joined_labels : ℕ × ℕ → List ℕ → List ℕ
joined_labels pair labels =
    let one = slice_index labels pair.0 in
    let other = slice_index labels pair.1 in
    if nat_lt one other then map (renamed other one) labels else map (renamed one other) labels
