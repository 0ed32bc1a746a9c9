use Rattle.std.proofs.Common.{◌+◌, arith}
use Rattle.cq_text.proofs.Numbers.{magnitude-more, magnitude-grows}
use Rattle.cq_text.proofs.lexing.magnitude.Goals as goal

pub returns-in_err-value : goal.returns-in_err-value
returns-in_err-value c =
    let m = magnitude-more c.loop-digit.digit-index c.args.digits.now c.loop-digit-test.true in
    let g = magnitude-grows (c.loop-digit.digit-index + 1) c.args.digits.now in
    rw c.from_residual.ensures (omega (arith, m, g, c.loop-digit.invariant, c.in_err-value.ensures, c.from.ensures, c.saturating_sub.ensures))
