use Rattle.std.proofs.Common.{◌≡◌, ◌*◌, ◌-◌, ℕ, cond}
use Rattle.std.specs.List.{slice_get}
use Rattle.std.specs.FinMap.{get}
use Rattle.cq_atom.specs.declared.limits.TheConstants.{MAX_ATOMS}
use Rattle.cq_links.specs.Steps.Blocks.{is_in_block}
use Rattle.cq_links.proofs.block.put_all.Given as goal

abbrev pub invariant-loop-i : goal.invariant-loop-i
invariant-loop-i g l = (k : ℕ) → get l.index k ≡ cond (is_in_block (l.place * MAX_ATOMS) l.i k) (slice_get l.atoms (k - (l.place * MAX_ATOMS))) (get l.fn.index k)
