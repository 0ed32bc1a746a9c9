use Rattle.std.proofs.Common.{◌≡◌, refl}
use Rattle.std.specs.Prelude.{string_bytes}
use Rattle.json.specs.Json as values
use Rattle.cq_ask.proofs.Members.{told_as}
use Rattle.cq_ask.proofs.data.text_member.Goals as goal

pub returns : goal.returns
returns g c = told_as (λ told. told ≡ (c.args.name.now, values.string c.args.text.now)) string_bytes c.member.result _ (values.string c.args.text.now) _ _ c.begin-sheet.ensures c.in_ok-string.ensures refl c.member.ensures
