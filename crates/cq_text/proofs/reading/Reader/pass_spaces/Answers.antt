use Rattle.std.proofs.Common.{◌∙◌}
use Rattle.std.proofs.lemmas.List.{take_rest}
use Rattle.cq_text.proofs.Lexemes.{spaces_passed}
use Rattle.cq_text.proofs.reading.Reader.pass_spaces.Goals as goal

pub returns : goal.returns
returns g c =
    let h = simp take_rest at c.spaces_len.ensures.len in
    spaces_passed c.self.inside.text.now c.self.inside.at c.spaces_len.result h ∙ c.self.view_is
