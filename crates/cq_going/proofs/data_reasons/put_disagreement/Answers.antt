use Rattle.std.proofs.Common.{inl, inr, refl, subst}
use Rattle.std.specs.Prelude.{IfSome}
use Rattle.json.specs.Json.{null}
use Rattle.cq_choose.specs.Disagreement.{IsDisagreement}
use Rattle.cq_going.specs.Data.{lack_json}
use Rattle.cq_going.proofs.Tellings.{on_ok}
use Rattle.cq_going.proofs.data_reasons.put_disagreement.Goals as goal

pub returns-in-Some : goal.returns-in-Some
returns-in-Some g c =
    let pool = c.args.board.now in
    let lack = c.in-Some.lack in
    let told = subst (λ o. IfSome o (λ d. IsDisagreement pool c.args.names.now d.name.now d.values.now d.post)) c.in-Some.is c.in_ok-lack.ensures.told in
    on_ok c.put_lack.result (λ is. (lack_json pool lack.name.now lack.values.now lack.post, inr (lack.name.now, lack.values.now, lack.post, told, refl), is)) c.put_lack.ensures

pub returns-in-None : goal.returns-in-None
returns-in-None g c = on_ok c.null.result (λ is. (null, inl (refl, c.in_ok-lack.ensures.none c.in-None.is), is)) c.null.ensures
