use Rattle.std.proofs.Common.{◌≡◌, refl}
use Rattle.std.specs.Prelude.{string_bytes}
use Rattle.json.specs.Json as values
use Rattle.cq_ask.proofs.Members.{told_as}
use Rattle.cq_ask.proofs.data.flag_member.Goals as goal

pub returns : goal.returns
returns g c = told_as (λ told. told ≡ (c.args.name.now, values.boolean c.args.flag)) string_bytes c.member.result _ (values.boolean c.args.flag) _ _ c.begin-sheet.ensures c.in_ok-boolean.ensures refl c.member.ensures
