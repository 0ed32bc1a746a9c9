-- The constants of the code are the numerals of the definitions.
use Rattle.std.proofs.Common.{◌≡◌, refl}
use Rattle.cq_devices.specs.declared.limits.TheConstants.{MAX_PIECE}
use Rattle.cq_devices.specs.Limits.{max_piece}

-- No contract of this crate is stated with this one.
pub MAX_PIECE-is : MAX_PIECE ≡ max_piece
MAX_PIECE-is = refl
