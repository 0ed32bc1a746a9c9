use Rattle.std.proofs.Common.{map}
use Rattle.std.specs.Prelude.{OnOk}
use Rattle.std.proofs.lemmas.Result.{on_ok_weaker}
use Rattle.cq_render.specs.Explain.{name_of_number}
use Rattle.cq_render.specs.Steps.Telling.{ArePut, AreUnmet}
use Rattle.cq_render.proofs.reasons.put_post_reason.Goals as goal

pub returns : goal.returns
returns g c =
    let pending = c.args.fallen.now.listing.now.board.now.pending in
    let providers = c.in_ok-providers.providers.items in
    let put : OnOk c.put_unmet_by.result (ArePut (AreUnmet pending c.args.name.now c.args.post (map (name_of_number pending) providers)) c.args.sheet.now c.put_unmet_by.new.sheet) = rw c.deref.ensures.value at c.put_unmet_by.ensures in
    on_ok_weaker c.put_unmet_by.result (λ put. (put.0, (providers, c.in_ok-providers.ensures, put.1.0, put.1.1, put.1.2), put.2)) put
