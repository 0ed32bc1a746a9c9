use Rattle.std.proofs.Common.{◌≡◌, ◌∙◌, ℕ, List, ap, subst}
use Rattle.std.proofs.lemmas.Result.{on_ok_weaker, on_err_weaker}
use Rattle.cq_report.specs.Find.{place_of}
use Rattle.cq_report.specs.Steps.Finds.{IsNoSearch, IsSearch}
use Rattle.cq_report.proofs.Finds.{BreaksReply-weaker, PutsReply-weaker, breaks_refused, breaks_weaker, puts_refused, puts_weaker, sought_as}
use Rattle.cq_report.proofs.finding.put_reply_of.Goals as goal

pub returns-in-Ok-clause-ok : goal.returns-in-Ok-clause-ok
returns-in-Ok-clause-ok g c =
    let pool = c.args.board.now in
    let ask = c.args.ask.now in
    let n = c.args.numbering in
    let search = c.in-Ok.search in
    let is = subst (λ (text : List ℕ). IsSearch c.args.form pool text search) c.text.ensures (rw c.in-Ok.is at c.in_ok-search.ensures.found) in
    puts_weaker c.put_search.result _ _ (PutsReply-weaker _ _ n c.args.before _ _ (sought_as c.args.form pool (place_of ask.kind) ask.text search n is) _ _) c.put_search.ensures.ok

pub returns-in-Ok-clause-breaks : goal.returns-in-Ok-clause-breaks
returns-in-Ok-clause-breaks g c =
    let pool = c.args.board.now in
    let ask = c.args.ask.now in
    let n = c.args.numbering in
    let search = c.in-Ok.search in
    let is = subst (λ (text : List ℕ). IsSearch c.args.form pool text search) c.text.ensures (rw c.in-Ok.is at c.in_ok-search.ensures.found) in
    breaks_weaker c.put_search.result _ _ (BreaksReply-weaker _ _ n c.args.before _ _ (sought_as c.args.form pool (place_of ask.kind) ask.text search n is) _ _) c.put_search.ensures.breaks

pub returns-in-Err-clause-ok : goal.returns-in-Err-clause-ok
returns-in-Err-clause-ok g c =
    let pool = c.args.board.now in
    let ask = c.args.ask.now in
    let n = c.args.numbering in
    let place : c.place_of-place.result ≡ place_of ask.kind = c.place_of-place.ensures ∙ ap place_of c.kind.ensures in
    let is : IsNoSearch c.args.form pool (place_of ask.kind) ask.text c.in-Err.refusal =
    subst (λ (text : List ℕ). IsNoSearch c.args.form pool (place_of ask.kind) text c.in-Err.refusal) c.text.ensures
    (subst (λ (at : ℕ). IsNoSearch c.args.form pool at c.text.result.now c.in-Err.refusal) place (rw c.in-Err.is at c.in_ok-search.ensures.refused)) in
    on_ok_weaker c.put_reply.result
    (λ put. puts_refused _ _ n c.args.before c.args.form pool (place_of ask.kind) ask.text c.in-Err.refusal c.plain-turn.result is c.plain-turn.ensures _ _ put)
    c.put_reply.ensures.ok

pub returns-in-Err-clause-breaks : goal.returns-in-Err-clause-breaks
returns-in-Err-clause-breaks g c =
    let pool = c.args.board.now in
    let ask = c.args.ask.now in
    let n = c.args.numbering in
    let place : c.place_of-place.result ≡ place_of ask.kind = c.place_of-place.ensures ∙ ap place_of c.kind.ensures in
    let is : IsNoSearch c.args.form pool (place_of ask.kind) ask.text c.in-Err.refusal =
    subst (λ (text : List ℕ). IsNoSearch c.args.form pool (place_of ask.kind) text c.in-Err.refusal) c.text.ensures
    (subst (λ (at : ℕ). IsNoSearch c.args.form pool at c.text.result.now c.in-Err.refusal) place (rw c.in-Err.is at c.in_ok-search.ensures.refused)) in
    on_err_weaker c.put_reply.result
    (λ broke. breaks_refused _ _ n c.args.before c.args.form pool (place_of ask.kind) ask.text c.in-Err.refusal c.plain-turn.result is c.plain-turn.ensures _ _ broke)
    c.put_reply.ensures.err
