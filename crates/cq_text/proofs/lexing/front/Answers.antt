use Rattle.std.proofs.Common.{◌∙◌, ap, sym}
use Rattle.std.proofs.lemmas.List.{take_rest}
use Rattle.cq_text.specs.Token.{TokenContent}
use Rattle.cq_text.proofs.Fronts.{front_word, front_digit, front_minus, front_arrow, front_quoted, front_sign}
use Rattle.cq_text.proofs.lexing.front.Goals as goal

pub returns-then-is_ascii_alphabetic-clause-token : goal.returns-then-is_ascii_alphabetic-clause-token
returns-then-is_ascii_alphabetic-clause-token g c = front_word c.args.bytes.now c.requires (sym c.is_ascii_alphabetic.ensures.value ∙ c.if-is_ascii_alphabetic.true) ∙ c.front_word-word.ensures.token

pub returns-then-is_ascii_digit-clause-token : goal.returns-then-is_ascii_digit-clause-token
returns-then-is_ascii_digit-clause-token g c = front_digit c.args.bytes.now c.requires (sym c.is_ascii_alphabetic.ensures.value ∙ c.if-is_ascii_alphabetic.false) (sym c.is_ascii_digit.ensures.value ∙ c.if-is_ascii_digit.true) ∙ c.positive_token.ensures.token

pub returns-then-first-eq45-clause-token : goal.returns-then-first-eq45-clause-token
returns-then-first-eq45-clause-token g c =
    let h = simp take_rest at c.negative_token.ensures.token in
    front_minus c.args.bytes.now c.requires (sym c.is_ascii_alphabetic.ensures.value ∙ c.if-is_ascii_alphabetic.false) (sym c.is_ascii_digit.ensures.value ∙ c.if-is_ascii_digit.false) c.if-first-eq45.true ∙ h

pub returns-then-first-eq60-clause-token : goal.returns-then-first-eq60-clause-token
returns-then-first-eq60-clause-token g c =
    let h = simp take_rest at c.arrow_token.ensures.token in
    front_arrow c.args.bytes.now c.requires (sym c.is_ascii_alphabetic.ensures.value ∙ c.if-is_ascii_alphabetic.false) (sym c.is_ascii_digit.ensures.value ∙ c.if-is_ascii_digit.false) c.if-first-eq45.false c.if-first-eq60.true ∙ h

pub returns-then-first-eq34-clause-token : goal.returns-then-first-eq34-clause-token
returns-then-first-eq34-clause-token g c =
    let h = simp take_rest at c.quoted_token.ensures.token in
    rw (front_quoted c.args.bytes.now c.requires (sym c.is_ascii_alphabetic.ensures.value ∙ c.if-is_ascii_alphabetic.false) (sym c.is_ascii_digit.ensures.value ∙ c.if-is_ascii_digit.false) c.if-first-eq45.false c.if-first-eq60.false c.if-first-eq34.true) h

pub returns-else-first-eq34-clause-token : goal.returns-else-first-eq34-clause-token
returns-else-first-eq34-clause-token g c = front_sign c.args.bytes.now c.requires (sym c.is_ascii_alphabetic.ensures.value ∙ c.if-is_ascii_alphabetic.false) (sym c.is_ascii_digit.ensures.value ∙ c.if-is_ascii_digit.false) c.if-first-eq45.false c.if-first-eq60.false c.if-first-eq34.false ∙ ap (λ (t : TokenContent). (t, 1)) (sym c.sign_token.ensures)
