use Rattle.std.proofs.Common.{◌≡◌, drop}
use Rattle.cq_board.specs.Edits.{answer_why}
use Rattle.cq_board.proofs.refusal.answer_why.Given as goal

abbrev pub invariant-loop-place : goal.invariant-loop-place
invariant-loop-place g l = answer_why l.catalog l.part 0 l.atoms ≡ answer_why l.catalog l.part l.place (drop l.place l.atoms)
