use Rattle.std.proofs.Common.{refl}
use Rattle.cq_text.proofs.binding.is_unbound.Goals as goal

pub returns-then-is_lower : goal.returns-then-is_lower
returns-then-is_lower g c = rw (c.in-Word.is, ← c.is_lower.ensures, c.if-is_lower.true, c.binds.ensures, c.as_str.ensures.value) refl
