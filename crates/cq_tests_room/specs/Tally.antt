-- Lists of at most four bytes, to which bytes are added.
use Rattle.std.specs.Prelude.{◌≡◌, ℕ, List, [], ◌∷◌, ◌++◌, length, true, false, nat_le, if◌then◌else◌, Option, Some, None, refl}

-- Why a list takes no byte more: it has four.
abbrev pub full_of : {W : Type 0} → W → List ℕ → ℕ → Option W
full_of full bytes byte = if nat_le 4 (length bytes) then Some full else None

-- The list with the byte at its end, where it has not four.
abbrev pub pushed : List ℕ → ℕ → List ℕ
pushed bytes byte = if nat_le 4 (length bytes) then bytes else bytes ++ byte ∷ []

-- A refused byte changes nothing.
pub full_keeps : {W : Type 0} (full : W) (bytes : List ℕ) (byte : ℕ) (reason : W) → full_of full bytes byte ≡ Some reason → pushed bytes byte ≡ bytes
full_keeps full bytes byte reason is = elim (nat_le 4 (length bytes)) as (λ b. (if b then Some full else None) ≡ Some reason → (if b then bytes else bytes ++ byte ∷ []) ≡ bytes) [ true ↦ λ _. refl | false ↦ λ p. cc ] is
