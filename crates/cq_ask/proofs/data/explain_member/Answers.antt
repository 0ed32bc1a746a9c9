use Rattle.std.specs.Prelude.{string_bytes}
use Rattle.cq_render.specs.Data.{AreReasonsJson}
use Rattle.cq_ask.proofs.Members.{told_put}
use Rattle.cq_ask.proofs.data.explain_member.Goals as goal

pub returns : goal.returns
returns g c = told_put (AreReasonsJson c.args.board.now c.args.names.now) string_bytes c.member.result _ _ _ c.begin-sheet.ensures c.in_ok-put_reasons.ensures c.member.ensures
