use Rattle.std.proofs.Common.{◌∙◌, sym}
use Rattle.cq_text.proofs.Lexemes.{word_comes}
use Rattle.cq_text.proofs.reading.Reader.meets_word.Goals as goal

pub returns-clause-word : goal.returns-clause-word
returns-clause-word g c = λ t.
    let byte = c.in-Some.ensures.lookup.3 in
    rw (← c.pass_spaces.ensures, ← c.self.view_is) (word_comes c.self.inside.text.now c.self.inside.at c.in-Some.first.now byte.0 (byte.1 0) (sym c.is_ascii_alphabetic.ensures.value ∙ t))
