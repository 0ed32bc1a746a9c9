use Rattle.std.proofs.Common.{◌≡◌, not, true, take}
use Rattle.std.specs.Prelude.{zip}
use Rattle.std.specs.List.{list_all}
use Rattle.cq_near.specs.Unfit.{is_strange}
use Rattle.cq_near.proofs.unfit.fits.Given as goal

-- none so far is strange
abbrev pub invariant-loop-place : goal.invariant-loop-place
invariant-loop-place g l = list_all (λ place. not (is_strange l.terms l.values place)) (take l.place (zip l.terms l.values)) ≡ true
