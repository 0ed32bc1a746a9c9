use Rattle.std.proofs.Common.{◌∙◌, ap, sym}
use Rattle.cq_text.specs.Steps.Lexing.{sign_of}
use Rattle.cq_text.proofs.Lexemes.{sign_met}
use Rattle.cq_text.proofs.reading.Reader.next_sign.Goals as goal

pub returns : goal.returns
returns g c =
    let byte = c.in_ok-get.ensures.lookup.3 in
    let sign = ap sign_of (sym (byte.1 0)) ∙ sym c.sign_of.ensures ∙ c.in_ok-sign.was in
    rw (← c.pass_spaces.ensures, ← c.self.view_is) (sign_met c.self.inside.text.now c.self.inside.at c.in_ok-sign.sign byte.0 sign)
