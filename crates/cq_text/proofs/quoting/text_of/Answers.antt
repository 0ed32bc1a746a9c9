use Rattle.std.proofs.Common.{refl}
use Rattle.cq_text.proofs.Utf8.{no_utf8}
use Rattle.cq_text.proofs.quoting.text_of.Goals as goal

pub returns-in_default-clause-text : goal.returns-in_default-clause-text
returns-in_default-clause-text g c = rw (no_utf8 c.args.bytes.now c.in_default.ensures.cases.0) refl
