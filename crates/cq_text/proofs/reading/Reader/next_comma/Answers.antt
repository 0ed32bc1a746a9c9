use Rattle.std.proofs.Common.{◌∙◌, ap, sym}
use Rattle.cq_text.specs.declared.token.Sign.TheVariants.{Comma}
use Rattle.cq_text.specs.Steps.Lexing.{sign_of}
use Rattle.cq_text.proofs.Lexemes.{sign_met}
use Rattle.cq_text.proofs.reading.Reader.next_comma.Goals as goal

pub returns : goal.returns
returns g c =
    let byte = c.in_ok-get.ensures.lookup.3 in
    let sign = ap sign_of (sym (byte.1 0) ∙ c.if-branch-ne44.false) in
    rw (← c.pass_spaces.ensures, ← c.self.view_is) (sign_met c.self.inside.text.now c.self.inside.at Comma byte.0 sign)
