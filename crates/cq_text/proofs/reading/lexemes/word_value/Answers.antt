use Rattle.cq_text.proofs.Words.{identifier-text}
use Rattle.cq_text.proofs.reading.lexemes.word_value.Goals as goal

pub text_value-requires : goal.text_value-requires
text_value-requires g c = identifier-text c.in_ok-short_word.field-0.now c.in_ok-short_word.ensures.valid.0 c.in_ok-short_word.ensures.valid.1
