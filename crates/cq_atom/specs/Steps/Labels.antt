-- Labels of the places of two lists of terms: places with one label hold one value.
use Rattle.std.specs.Prelude.{◌≡◌, ℕ, ◌<◌, List, length, slice_index_or, pos, if◌then◌else◌, ◌==◌}
use Rattle.cq_atom.specs.Value.{ValueContent}
use Rattle.cq_atom.specs.Atom.{TermContent}
use Rattle.cq_atom.specs.Value.{IsValue}
use Rattle.cq_atom.specs.declared.value.Content.TheVariants.{Number}
use Rattle.cq_atom.specs.declared.term.TermKind.TheVariants.{Constant, Variable}

abbrev pub zero_value : ValueContent
zero_value = Number (pos 0)

abbrev pub term_at : List TermContent → ℕ → TermContent
term_at xs i = slice_index_or xs i (Constant zero_value)

abbrev pub label_at : List ℕ → ℕ → ℕ
label_at ls i = slice_index_or ls i 0

-- each place has a label of its own: its number
abbrev pub AreOwn : List ℕ → Type 0
AreOwn ls = (k : ℕ) → k < length ls → label_at ls k ≡ k

pub record SameVariable (s t : TermContent) : Type 0 where
  pub name : List ℕ
  pub first : s ≡ Variable name
  pub second : t ≡ Variable name

-- two places of the list that hold one variable
pub record Tied (xs : List TermContent) (i j : ℕ) : Type 0 where
  pub first_in : i < length xs
  pub second_in : j < length xs
  pub variable : SameVariable (term_at xs i) (term_at xs j)

-- the values z are equal where the labels are
abbrev pub Respects : List ℕ → (ℕ → ValueContent) → Type 0
Respects ls z = (i j : ℕ) → i < length ls → j < length ls → label_at ls i ≡ label_at ls j → z i ≡ z j

abbrev pub RespectsTies : List TermContent → (ℕ → ValueContent) → Type 0
RespectsTies xs z = (i j : ℕ) → Tied xs i j → z i ≡ z j

abbrev pub relabel : ℕ → ℕ → ℕ → ℕ
relabel from to l = if l == from then to else l

-- each place of one label has got the other
pub record Merged (old now : List ℕ) (from to : ℕ) : Type 0 where
  pub size : length now ≡ length old
  pub each : (k : ℕ) → k < length old → label_at now k ≡ relabel from to (label_at old k)

-- labels `now`, in which the pairs that P picks and xs ties have got one label, and no places more than need be
pub record Ties (old now : List ℕ) (xs : List TermContent) (P : ℕ → ℕ → Type 0) : Type 0 where
  pub size : length now ≡ length old
  pub keeps : (a b : ℕ) → a < length old → b < length old → label_at old a ≡ label_at old b → label_at now a ≡ label_at now b
  pub least : (z : ℕ → ValueContent) → Respects old z → RespectsTies xs z → Respects now z
  pub ties : (a b : ℕ) → P a b → Tied xs a b → label_at now a ≡ label_at now b

-- the pairs that end at j and begin below i
abbrev pub EndsAt : ℕ → ℕ → ℕ → ℕ → Type 0
EndsAt j i a b = (b ≡ j) × (a < i)

-- the rising pairs that end below j
abbrev pub EndsBelow : ℕ → ℕ → ℕ → Type 0
EndsBelow j a b = (a < b) × (b < j)

-- the constants of ys under the label are this one
abbrev pub AgreesWith : List ℕ → ℕ → ValueContent → List TermContent → Type 0
AgreesWith ls l c ys = (j : ℕ) → j < length ys → label_at ls j ≡ l → (d : ValueContent) → term_at ys j ≡ Constant d → c ≡ d

-- no two constants, one in xs and one in ys, differ under one label
abbrev pub Agree : List ℕ → List TermContent → List TermContent → Type 0
Agree ls xs ys = (i j : ℕ) → i < length xs → j < length ys → label_at ls i ≡ label_at ls j → (c d : ValueContent) → term_at xs i ≡ Constant c → term_at ys j ≡ Constant d → c ≡ d

-- the constants of xs are values
abbrev pub AreValid : List TermContent → Type 0
AreValid xs = (i : ℕ) → i < length xs → (c : ValueContent) → term_at xs i ≡ Constant c → IsValue c
