use Rattle.std.proofs.lemmas.Str.{is_utf8-from_IsUtf8}
use Rattle.std.proofs.Common.{rules}
use Rattle.cq_atom.proofs.word.is_text_content.Goals as goal

pub returns-then-text-le-MAX_TEXT : goal.returns-then-text-le-MAX_TEXT
returns-then-text-le-MAX_TEXT c = rw (is_utf8-from_IsUtf8 c.args.text.now c.utf8.text) (search rules)
