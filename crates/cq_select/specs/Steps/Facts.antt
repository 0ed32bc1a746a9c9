-- What a search knows: facts about all selections, which hold whatever is chosen, and what is true of the choices made so far.
use Rattle.std.specs.Prelude.{◌≡◌, ◌<◌, ◌≤◌, ℕ, Bool, true, false, ⊤, zero, suc, nat_eq, Option, Some, None, List, [], ◌∷◌, ◌++◌, length, map, take, slice_index, slice_index_or}
use Rattle.std.specs.HashMap.{get}
use Rattle.std.specs.List.{All, Contains}
use Rattle.cq_select.specs.declared.choosing.Verdict.{Verdict}
use Rattle.cq_select.specs.declared.choosing.Verdict.TheVariants.{Free, Never, Taken}
use Rattle.cq_select.specs.declared.supply.Supply.{Supply}
use Rattle.cq_select.specs.declared.trail.Choice.{Choice}
use Rattle.cq_select.specs.declared.trail.Frame.{Frame}
use Rattle.cq_select.specs.declared.trail.Trail.{Trail}
use Rattle.cq_select.specs.Selection.{member_count, owner_of, needs_of, suppliers_of, IsSupplied, IsSelection}

-- Each element of the first list is one of the second.
abbrev pub IsWithin : List ℕ → List ℕ → Type 0
IsWithin xs ys = (m : ℕ) → Contains xs m → Contains ys m

-- No selection has all of the conflict.
pub record Nogood {A : Type 0} (supply : Supply A) (wanted conflict : List ℕ) : Type 0 where
  pub never : (chosen : List ℕ) → IsSelection supply wanted chosen → IsWithin conflict chosen → ⊥

-- No selection has the member beside all of the reason.
pub record Refuted {A : Type 0} (supply : Supply A) (wanted reason : List ℕ) (member : ℕ) : Type 0 where
  pub never : (chosen : List ℕ) → IsSelection supply wanted chosen → IsWithin reason chosen → Contains chosen member → ⊥

-- Who asks by the list of that number: nobody by the first, which is what is wanted, and then each of those chosen.
abbrev pub asker : List ℕ → ℕ → Option ℕ
asker below zero = None
asker below (suc k) = Some (slice_index below k)

-- The atoms that the member asks for.
abbrev pub asked_by : {A : Type 0} → Supply A → List ℕ → Option ℕ → List ℕ
asked_by supply wanted None = wanted
asked_by supply wanted (Some member) = needs_of supply member

-- The atoms of the list of that number.
abbrev pub asked : {A : Type 0} → Supply A → List ℕ → List ℕ → ℕ → List ℕ
asked supply wanted below list = asked_by supply wanted (asker below list)

-- The place is the first in the list whose atom nobody chosen supplies.
pub record IsFirstUnmet {A : Type 0} (supply : Supply A) (below atoms : List ℕ) (place : ℕ) : Type 0 where
  pub low : place < length atoms
  pub unmet : IsSupplied supply below (slice_index atoms place) → ⊥
  pub before : All (IsSupplied supply below) (take place atoms)

-- The atom is wanted, or one of those chosen needs it.
abbrev pub IsAsked : {A : Type 0} → Supply A → List ℕ → List ℕ → Option ℕ → ℕ → Type 0
IsAsked supply wanted below None atom = Contains wanted atom
IsAsked supply wanted below (Some cause) atom = Contains below cause × Contains (needs_of supply cause) atom

-- Those chosen supply all that is asked in earlier lists, and before the place in this one.
pub record IsMet {A : Type 0} (supply : Supply A) (wanted below : List ℕ) (list place : ℕ) : Type 0 where
  pub lists : (k : ℕ) → k < list → All (IsSupplied supply below) (asked supply wanted below k)
  pub front : All (IsSupplied supply below) (take place (asked supply wanted below list))

-- A choice is open over those chosen, and so many of the suppliers are refuted.
pub record IsOpen {A : Type 0} (supply : Supply A) (wanted below : List ℕ) (choice : Choice A) (count : ℕ) : Type 0 where
  pub met : IsMet supply wanted below choice.list choice.place
  pub low : choice.list ≤ length below
  pub needed : IsAsked supply wanted below choice.cause choice.atom
  pub unmet : IsSupplied supply below choice.atom → ⊥
  pub caused : IsWithin choice.reason.items below
  pub refuted : (k : ℕ) → k < count → Refuted supply wanted choice.reason.items (slice_index (suppliers_of supply choice.atom) k)

-- The member is the next of the suppliers, the count of which is refuted.
pub record IsTrying {A : Type 0} (supply : Supply A) (wanted below : List ℕ) (choice : Choice A) (member : ℕ) : Type 0 where
  pub count : ℕ
  pub state : IsOpen supply wanted below choice count
  pub counted : choice.tried ≡ suc count
  pub low : count < length (suppliers_of supply choice.atom)
  pub served : member ≡ slice_index (suppliers_of supply choice.atom) count

-- The choice was made over those chosen before, and its member has an owner of its own.
pub record IsFrame {A : Type 0} (supply : Supply A) (wanted below : List ℕ) (frame : Frame A) : Type 0 where
  pub trying : IsTrying supply wanted below frame.choice frame.member
  pub known : frame.member < member_count supply
  pub alone : (m : ℕ) → Contains below m → owner_of supply m ≡ owner_of supply frame.member → ⊥

-- Each choice was made over those before it.
abbrev pub AreFrames : {A : Type 0} → Supply A → List ℕ → List ℕ → List (Frame A) → Type 0
AreFrames supply wanted below [] = ⊤
AreFrames supply wanted below (frame ∷ frames) = IsFrame supply wanted below frame × AreFrames supply wanted (below ++ frame.member ∷ []) frames

-- The members chosen.
abbrev pub chosen_of : {A : Type 0} → List (Frame A) → List ℕ
chosen_of frames = map (λ frame. frame.member) frames

-- The seats are those of the members chosen.
pub record AreSeats {A : Type 0} (supply : Supply A) (below : List ℕ) (seats : ℕ → Option ℕ) : Type 0 where
  pub known : All (λ m. m < member_count supply) below
  pub each : (m : ℕ) → Contains below m → seats (owner_of supply m) ≡ Some m
  pub only : (owner m : ℕ) → seats owner ≡ Some m → Contains below m × (owner_of supply m ≡ owner)

-- Each member that is marked is in no selection.
pub record AreDead {A : Type 0} (supply : Supply A) (wanted : List ℕ) (dead : List Bool) : Type 0 where
  pub len : length dead ≡ member_count supply
  pub never : (m : ℕ) → slice_index_or dead m false ≡ true → Refuted supply wanted [] m

-- The suppliers of each atom that is marked are in no selection.
pub record AreLost {A : Type 0} (supply : Supply A) (wanted : List ℕ) (lost : List Bool) : Type 0 where
  pub never : (atom m : ℕ) → slice_index_or lost atom false ≡ true → Contains (suppliers_of supply atom) m → Refuted supply wanted [] m

-- What is true of a trail all the time.
pub record IsTrail {A : Type 0} (supply : Supply A) (wanted : List ℕ) (trail : Trail A) : Type 0 where
  pub frames : AreFrames supply wanted [] trail.frames.items
  pub seats : AreSeats supply (chosen_of trail.frames.items) (get nat_eq trail.seats)
  pub dead : AreDead supply wanted trail.dead.items
  pub lost : AreLost supply wanted trail.lost.items

-- The next need is looked for: all before the place is met.
pub record IsScanning {A : Type 0} (supply : Supply A) (wanted : List ℕ) (trail : Trail A) : Type 0 where
  pub trail_is : IsTrail supply wanted trail
  pub low : trail.choice.list ≤ suc (length (chosen_of trail.frames.items))
  pub met : IsMet supply wanted (chosen_of trail.frames.items) trail.choice.list trail.choice.place
  pub fresh : trail.choice.tried ≡ 0
  pub clear : trail.choice.reason.items ≡ []

-- A member is looked for: those that were tried are refuted.
pub record IsChoosing {A : Type 0} (supply : Supply A) (wanted : List ℕ) (trail : Trail A) : Type 0 where
  pub trail_is : IsTrail supply wanted trail
  pub choice : IsOpen supply wanted (chosen_of trail.frames.items) trail.choice trail.choice.tried

-- The member is looked at as the next one.
pub record IsLooking {A : Type 0} (supply : Supply A) (wanted : List ℕ) (trail : Trail A) (member : ℕ) : Type 0 where
  pub trail_is : IsTrail supply wanted trail
  pub trying : IsTrying supply wanted (chosen_of trail.frames.items) trail.choice member

-- All suppliers were tried.
pub record IsExhausted {A : Type 0} (supply : Supply A) (wanted : List ℕ) (trail : Trail A) : Type 0 where
  pub choosing : IsChoosing supply wanted trail
  pub all : length (suppliers_of supply trail.choice.atom) ≤ trail.choice.tried

-- No selection has all of the reason, which are members chosen.
pub record IsBlocked {A : Type 0} (supply : Supply A) (wanted : List ℕ) (trail : Trail A) : Type 0 where
  pub trail_is : IsTrail supply wanted trail
  pub conflict : Nogood supply wanted trail.choice.reason.items
  pub caused : IsWithin trail.choice.reason.items (chosen_of trail.frames.items)

-- What is found of a candidate: it may be chosen, no selection has it, or another of its owner is chosen.
abbrev pub IsVerdict : {A : Type 0} → Supply A → Trail A → ℕ → Verdict → Type 0
IsVerdict supply trail member (Free owner) = (member < member_count supply) × (owner ≡ owner_of supply member) × (get nat_eq trail.seats owner ≡ None)
IsVerdict supply trail member Never = (wanted : List ℕ) → AreDead supply wanted trail.dead.items → Refuted supply wanted [] member
IsVerdict supply trail member (Taken other) = get nat_eq trail.seats (owner_of supply member) ≡ Some other
