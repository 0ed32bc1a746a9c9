use Rattle.std.proofs.Common.{◌∷◌, [], refl}
use Rattle.std.specs.Prelude.{codes, OnOk}
use Rattle.std.proofs.lemmas.Result.{on_ok_weaker}
use Rattle.json.specs.Json.{string}
use Rattle.cq_match.specs.declared.falls.Reason.TheVariants.{NotAble}
use Rattle.cq_render.specs.Data.{IsReasonJson}
use Rattle.cq_render.specs.Steps.Telling.{ArePut}
use Rattle.cq_render.proofs.reasons.put_reason.Goals as goal

pub returns-in-NotAble : goal.returns-in-NotAble
returns-in-NotAble g c =
    let put : OnOk c.text_member.result (ArePut (IsReasonJson c.args.fallen.now.listing.now.board.now.pending c.args.name.now c.args.fall.now.node NotAble) c.args.sheet.now c.text_member.new.self) =
    on_ok_weaker c.text_member.result (λ is. ((codes "reason", string (codes "no row")) ∷ [], refl, is)) c.text_member.ensures in
    rw c.in-NotAble.is put
