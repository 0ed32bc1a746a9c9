use Rattle.cq_text.proofs.PrintedEscapes.{escaped_more}
use Rattle.cq_text.proofs.printing.push_escaped.Goals as goal

pub loop-character-preserved : goal.loop-character-preserved
loop-character-preserved g c = escaped_more _ _ _ _ _ c.loop-character.invariant c.in_ok-push_character.ensures
