-- What callers see of a `Refusing`.
use Rattle.std.specs.Prelude.{ℕ}
use Rattle.cq_refusing.specs.declared.Refusing.{Refusing}

-- how many allocations come before the one that is refused
abbrev pub allocations_before : {B : Type 0} → Refusing B → ℕ
allocations_before heap = heap.allocations.left
