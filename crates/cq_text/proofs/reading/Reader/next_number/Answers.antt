use Rattle.std.proofs.Common.{rules, w64, SFits}
use Rattle.std.proofs.lemmas.Int.{to_z-of_z}
use Rattle.std.proofs.lemmas.List.{take_rest}
use Rattle.cq_atom.specs.declared.value.Content.TheVariants.{Number}
use Rattle.cq_text.proofs.Lexemes.{number_met}
use Rattle.cq_text.proofs.reading.Reader.next_number.Goals as goal

pub returns : goal.returns
returns g c =
    let d = simp take_rest at c.in_ok-number.ensures.digit in
    let t = simp take_rest at c.in_ok-number.ensures.token in
    let w = simp take_rest at c.in_ok-number.ensures.within in
    let fits : SFits w64 c.in_ok-number.number = search rules in
    rw (to_z-of_z w64 c.in_ok-number.number fits, ← c.pass_spaces.ensures, ← c.self.view_is) (number_met c.self.inside.text.now c.self.inside.at (Number c.in_ok-number.number) c.in_ok-number.len d t w.0 w.1)
