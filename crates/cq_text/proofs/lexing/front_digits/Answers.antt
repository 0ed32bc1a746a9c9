use Rattle.std.proofs.Common.{◌≡◌, ℕ, ◌<◌, false, length, take, get_or, sym, ap, ◌∙◌, arith}
use Rattle.std.specs.Char.{is_ascii_digit}
use Rattle.std.proofs.lemmas.List.Sums.{prefix_len_is}
use Rattle.cq_text.specs.Lexing.{magnitude}
use Rattle.cq_text.proofs.lexing.front_digits.Goals as goal

pub returns-then-not-is_ascii_digit : goal.returns-then-not-is_ascii_digit
returns-then-not-is_ascii_digit c =
    let other = sym c.is_ascii_digit.ensures.value ∙ c.if-not-is_ascii_digit.true in
    (sym (prefix_len_is is_ascii_digit c.args.bytes.now c.loop-len.len 0 (omega arith) c.loop-len.invariant.digits (λ (h : c.loop-len.len < length c.args.bytes.now). other)), c.loop-len.invariant.value)

pub returns : goal.returns
returns c =
    let all : c.loop-len.len ≡ length c.args.bytes.now = omega arith in
    let none : c.loop-len.len < length c.args.bytes.now → is_ascii_digit (get_or c.args.bytes.now c.loop-len.len 0) ≡ false = λ h. let never : ⊥ = omega arith in absurd never in
    (sym all ∙ sym (prefix_len_is is_ascii_digit c.args.bytes.now c.loop-len.len 0 (omega arith) c.loop-len.invariant.digits none), c.loop-len.invariant.value ∙ ap (λ (k : ℕ). magnitude (take k c.args.bytes.now)) all)
