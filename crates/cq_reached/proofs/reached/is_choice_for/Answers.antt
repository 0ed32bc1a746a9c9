use Rattle.std.proofs.Common.{refl}
use Rattle.cq_reached.proofs.reached.is_choice_for.Goals as goal

pub returns-then-check_choice : goal.returns-then-check_choice
returns-then-check_choice g c has = record { coordinating = c.if-check_choice.ensures.choice.0 refl; named = c.have_all.ensures has }
