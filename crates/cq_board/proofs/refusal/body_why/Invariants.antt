use Rattle.std.proofs.Common.{◌≡◌, drop}
use Rattle.cq_board.specs.Edits.{body_why}
use Rattle.cq_board.proofs.refusal.body_why.Given as goal

abbrev pub invariant-loop-place : goal.invariant-loop-place
invariant-loop-place g l = body_why l.catalog 0 l.atoms ≡ body_why l.catalog l.place (drop l.place l.atoms)
