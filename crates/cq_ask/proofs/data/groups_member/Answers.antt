use Rattle.std.specs.Prelude.{string_bytes}
use Rattle.cq_going.specs.Data.{AreGroupsJson}
use Rattle.cq_ask.proofs.Members.{told_put}
use Rattle.cq_ask.proofs.data.groups_member.Goals as goal

pub returns : goal.returns
returns g c = told_put (AreGroupsJson c.args.board.now) string_bytes c.member.result _ _ _ c.begin-sheet.ensures c.in_ok-put_groups.ensures c.member.ensures
