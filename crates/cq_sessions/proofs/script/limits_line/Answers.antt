use Rattle.std.proofs.Common.{◌∙◌, append_assoc}
use Rattle.std.proofs.lemmas.Result.{IfOk-weaker}
use Rattle.cq_sessions.proofs.script.limits_line.Goals as goal

pub returns : goal.returns
returns g c = IfOk-weaker c.format.result _ _ (λ text e. e ∙ simp append_assoc) c.format.ensures.ok
