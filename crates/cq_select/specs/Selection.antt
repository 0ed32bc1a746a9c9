-- Who may be chosen, and which lists of members are selections.
-- (a selection as a coordinating choice of groundings of entangled queries: Gupta et al., SIGMOD 2011; members, owners and atoms as numbers: this project's profile)
use Rattle.std.specs.Prelude.{◌<◌, ℕ, ⊤, nat_eq, List, [], length, map, slice_index, slice_index_or}
use Rattle.std.specs.List.{All, Any, Contains, IsDistinct}
use Rattle.cq_select.specs.declared.supply.Supply.{Supply}
use Rattle.cq_select.specs.declared.search.Selected.{Selected}
use Rattle.cq_select.specs.declared.search.Selected.TheVariants.{Found, Impossible, Undecided}

-- How many members there are. Each number below it is a member's.
abbrev pub member_count : {A : Type 0} → Supply A → ℕ
member_count supply = length supply.members.items

-- The owner of a member.
unfoldable pub owner_of : {A : Type 0} → Supply A → ℕ → ℕ
owner_of supply member = slice_index (map (λ m. m.owner) supply.members.items) member

-- The atoms that a member needs.
unfoldable pub needs_of : {A : Type 0} → Supply A → ℕ → List ℕ
needs_of supply member = slice_index_or (map (λ m. m.needs.items) supply.members.items) member []

-- The members that supply an atom.
unfoldable pub suppliers_of : {A : Type 0} → Supply A → ℕ → List ℕ
suppliers_of supply atom = slice_index_or (map (λ s. s.items) supply.suppliers.items) atom []

-- One of those chosen supplies the atom.
abbrev pub IsSupplied : {A : Type 0} → Supply A → List ℕ → ℕ → Type 0
IsSupplied supply chosen atom = Any (Contains (suppliers_of supply atom)) chosen

-- A selection for the wanted atoms: members, no two of one owner, such that each atom that one of them needs and each wanted atom is supplied by one of them.
pub record IsSelection {A : Type 0} (supply : Supply A) (wanted chosen : List ℕ) : Type 0 where
  pub known : All (λ m. m < member_count supply) chosen
  pub apart : IsDistinct nat_eq (map (owner_of supply) chosen)
  pub needs : All (λ m. All (IsSupplied supply chosen) (needs_of supply m)) chosen
  pub wants : All (IsSupplied supply chosen) wanted

-- The claim holds of the selection, if one was found.
abbrev pub IfFound : {A : Type 0} → Selected A → (List ℕ → Type 0) → Type 0
IfFound (Found chosen) P = P chosen.items
IfFound Impossible P = ⊤
IfFound Undecided P = ⊤
