use Rattle.std.proofs.Common.{◌∙◌, sym}
use Rattle.cq_why.proofs.hint.put_token.Goals as goal

pub returns-else-is_mark : goal.returns-else-is_mark
returns-else-is_mark g c = rw (sym c.is_mark.ensures ∙ c.if-is_mark.false) c.put_found_and.ensures
