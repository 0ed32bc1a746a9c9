use Rattle.std.proofs.Common.{◌∙◌, sym, drop}
use Rattle.std.proofs.lemmas.List.{take_rest}
use Rattle.cq_text.proofs.Lexemes.{word_met, letter_first}
use Rattle.cq_text.proofs.reading.Reader.next_word.Goals as goal

pub returns : goal.returns
returns g c =
    let first = simp take_rest at c.in_ok-first.ensures.value in
    let letter = letter_first (drop c.self.inside.at c.self.inside.text.now) c.in_ok-first.field-0.now first (sym c.is_ascii_alphabetic.ensures.value ∙ c.if-not-is_ascii_alphabetic.false) in
    let t = simp take_rest at c.front_word-word.ensures.token in
    let w = simp take_rest at c.front_word-word.ensures.within in
    rw (← c.pass_spaces.ensures, ← c.self.view_is) (word_met c.self.inside.text.now c.self.inside.at c.front_word-word.result.0 c.front_word-word.result.1 letter t w.0 w.1)
