use Rattle.std.specs.Prelude.{string_bytes}
use Rattle.cq_render.specs.Data.{IsArray, IsNearOf}
use Rattle.cq_ask.proofs.Members.{told_put}
use Rattle.cq_ask.proofs.data.near_member.Goals as goal

pub returns : goal.returns
returns g c = told_put (IsArray (IsNearOf c.args.board.now c.args.post) c.args.names.now) string_bytes c.member.result _ _ _ c.begin-sheet.ensures c.in_ok-put_nears.ensures c.member.ensures
