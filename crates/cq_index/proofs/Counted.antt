-- What a meter has counted, when some or all candidates are tested.
use Rattle.std.proofs.Common.{◌≡◌, ℕ, ◌+◌, ◌<◌, ◌≤◌, List, length, min, ap, ◌∙◌, arith, le_antisymm}

pub counted-all : (before now i top : ℕ) (xs cs : List ℕ) → now ≡ min (before + i) top → i ≤ length xs → length xs ≤ i → xs ≡ cs → now ≡ min (before + length cs) top
counted-all before now i top xs cs counted within past same =
    counted ∙ ap (λ n. min (before + n) top) (le_antisymm within past ∙ ap length same)

-- it rises
pub counts-up : (before now i top : ℕ) → before ≤ top → now ≡ min (before + i) top → before ≤ now
counts-up before now i top fits counted = omega arith

-- and goes no further than all
pub counts-within : (before now n top : ℕ) → before ≤ top → now ≡ before → now ≤ min (before + n) top
counts-within before now n top fits same = omega arith

pub counts-upto : (before now i top : ℕ) (xs cs : List ℕ) → now ≡ min (before + i) top → i ≤ length xs → xs ≡ cs → now ≤ min (before + length cs) top
counts-upto before now i top xs cs counted within same = let n = ap length same in omega (arith, counted, within, n)

-- one more is counted, and no other

pub ticks-up : (before now next i top : ℕ) → before ≤ top → now ≡ min (before + i) top → next ≡ min (now + 1) top → before ≤ next
ticks-up before now next i top fits counted ticked = omega arith

pub ticks-upto : (before now next i top : ℕ) (xs cs : List ℕ) → now ≡ min (before + i) top → next ≡ min (now + 1) top → i < length xs → xs ≡ cs → next ≤ min (before + length cs) top
ticks-upto before now next i top xs cs counted ticked within same = let n = ap length same in omega (arith, counted, ticked, within, n)

-- a number of 64 bits
pub fits-low : (r before : ℕ) → r < 18446744073709551616 → r ≡ before → before ≤ 18446744073709551615
fits-low r before fits same = omega arith
