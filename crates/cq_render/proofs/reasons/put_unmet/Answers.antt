use Rattle.std.proofs.Common.{◌≡◌, ◌∙◌, [], true, false, sym, length}
use Rattle.std.specs.Prelude.{◌==◌}
use Rattle.std.proofs.lemmas.Result.{on_ok_weaker}
use Rattle.cq_render.specs.Json.{array_of}
use Rattle.cq_render.specs.Data.{IsUnmetJson}
use Rattle.cq_render.proofs.Telling.{put_so, unmet_none, unmet_some}
use Rattle.cq_render.proofs.reasons.put_unmet.Goals as goal

pub returns-then-is_empty : goal.returns-then-is_empty
returns-then-is_empty g c =
    let pending = c.args.fallen.now.listing.now.board.now.pending in
    let providers = c.args.providers.now in
    let none : (length providers == 0) ≡ true = sym c.is_empty.ensures ∙ c.if-is_empty.true in
    on_ok_weaker c.put_missing.result (λ put. (put.0, unmet_none pending c.args.name.now c.args.post (λ name. name.now) providers none put.0 put.1, put.2)) c.put_missing.ensures

pub returns-else-is_empty : goal.returns-else-is_empty
returns-else-is_empty g c =
    let pending = c.args.fallen.now.listing.now.board.now.pending in
    let providers = c.args.providers.now in
    let some : (length providers == 0) ≡ false = sym c.is_empty.ensures ∙ c.if-is_empty.false in
    put_so (IsUnmetJson pending c.args.name.now c.args.post _) (array_of []) c.args.sheet.now c.put_nothing.new.sheet c.put_nothing.result
    (unmet_some pending c.args.name.now c.args.post (λ name. name.now) providers some) c.put_nothing.ensures
