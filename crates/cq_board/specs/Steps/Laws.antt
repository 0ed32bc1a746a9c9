-- What is shown of a board as a state that takes edits.
use Rattle.std.specs.Prelude.{◌≡◌, Some}
use Rattle.std.proofs.Common.{ap}
use Rattle.cq_board.specs.declared.edit.Why.{Why}
use Rattle.cq_board.specs.Pool.{PoolRecord}
use Rattle.cq_atom.specs.Edit.{Edit}
use Rattle.cq_board.specs.Edits.{edited, pool_after, unless_refused, why}

-- A refused edit of a pool changes nothing.
pub refused_keeps : (pool : PoolRecord) (edit : Edit) (reason : Why) → why pool edit ≡ Some reason → pool_after pool edit ≡ pool
refused_keeps pool edit reason is = ap (λ answer. unless_refused answer pool (edited pool edit)) is
