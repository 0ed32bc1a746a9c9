use Rattle.cq_text.proofs.Words.{identifier-utf8}
use Rattle.cq_text.proofs.word.Identifier.new.Goals as goal

pub from_utf8_unchecked-text-requires : goal.from_utf8_unchecked-text-requires
from_utf8_unchecked-text-requires c = identifier-utf8 c.args.bytes.now c.requires
