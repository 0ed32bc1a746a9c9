-- A key is a place and the number of an atom there.
use Rattle.std.proofs.Common.{◌≡◌, ℕ, ◌+◌, ◌*◌, ◌/◌, ◌%◌, ◌<◌, arith}
use Rattle.cq_atom.specs.declared.limits.TheConstants.{MAX_ATOMS}

pub key_is : (k : ℕ) → k / MAX_ATOMS * MAX_ATOMS + k % MAX_ATOMS ≡ k
key_is k = omega arith

pub rest_low : (k : ℕ) → k % MAX_ATOMS < MAX_ATOMS
rest_low k = omega arith

pub place_of_key : (p i : ℕ) → i < MAX_ATOMS → (p * MAX_ATOMS + i) / MAX_ATOMS ≡ p
place_of_key p i low = omega arith

pub number_of_key : (p i : ℕ) → i < MAX_ATOMS → (p * MAX_ATOMS + i) % MAX_ATOMS ≡ i
number_of_key p i low = omega arith
