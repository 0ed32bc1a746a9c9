use Rattle.cq_text.proofs.Words.{identifier-text}
use Rattle.cq_text.proofs.reading.lexemes.word_term.Goals as goal

pub text_term-requires : goal.text_term-requires
text_term-requires g c = identifier-text c.in_ok-short_word.field-0.now c.in_ok-short_word.ensures.valid.0 c.in_ok-short_word.ensures.valid.1
