use Rattle.std.proofs.Common.{◌≡◌, map, take}
use Rattle.std.specs.Prelude.{zip, filter}
use Rattle.cq_near.specs.Unfit.{is_strange}
use Rattle.cq_near.proofs.unfit.strange.Given as goal

-- the strange ones so far
abbrev pub invariant-loop-place : goal.invariant-loop-place
invariant-loop-place g l = map (λ v. v.now) l.found.items ≡ map (λ place. place.1) (filter (is_strange l.terms l.values) (take l.place (zip l.terms l.values)))
