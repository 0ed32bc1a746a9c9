use Rattle.std.proofs.Common.{rules, ◌≡◌, ◌∙◌, sym, ap, take, w64, SFits, arith}
use Rattle.std.proofs.lemmas.Int.{to_z-of_z}
use Rattle.std.proofs.lemmas.List.Sums.{prefix_len-le-length}
use Rattle.std.specs.Char.{is_ascii_digit}
use Rattle.cq_atom.specs.declared.value.Content.TheVariants.{Number}
use Rattle.cq_text.specs.declared.token.Token.TheVariants.{Literal}
use Rattle.cq_text.specs.Lexing.{positive}
use Rattle.cq_text.specs.Steps.Lexing.{number_or_bad}
use Rattle.cq_text.proofs.Numbers.{number_some, number_front}
use Rattle.cq_text.proofs.lexing.front_number.Goals as goal
use Rattle.cq_text.proofs.lexing.front_number.Goals.{In_ok-number}

is_literal : (c : In_ok-number) → Literal (Number c.in_ok-number.number) ≡ positive (take c.in_ok-value.len c.args.bytes.now)
is_literal c = ap number_or_bad (sym c.in_ok-number.was) ∙ c.number_of.ensures

pub returns-clause-token : goal.returns-clause-token
returns-clause-token c =
    let fits : SFits w64 c.in_ok-number.number = search rules in
    let some = number_some c.in_ok-value.len c.args.bytes.now (Number c.in_ok-number.number) (is_literal c) in
    rw (to_z-of_z w64 c.in_ok-number.number fits) (number_front c.args.bytes.now c.in_ok-value.len (Literal (Number c.in_ok-number.number)) c.in_ok-value.ensures.0 some (is_literal c)).1

pub returns-clause-digit : goal.returns-clause-digit
returns-clause-digit c =
    let some = number_some c.in_ok-value.len c.args.bytes.now (Number c.in_ok-number.number) (is_literal c) in
    (number_front c.args.bytes.now c.in_ok-value.len (Literal (Number c.in_ok-number.number)) c.in_ok-value.ensures.0 some (is_literal c)).0

pub returns-clause-within : goal.returns-clause-within
returns-clause-within c =
    let some = number_some c.in_ok-value.len c.args.bytes.now (Number c.in_ok-number.number) (is_literal c) in
    (some, omega (arith, c.in_ok-value.ensures.0, prefix_len-le-length is_ascii_digit c.args.bytes.now))
