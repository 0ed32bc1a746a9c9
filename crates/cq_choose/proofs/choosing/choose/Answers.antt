use Rattle.std.proofs.Common.{◌∙◌, List, map, refl, sym, ap, subst}
use Rattle.cq_select.specs.declared.supply.Supply.{Supply}
use Rattle.cq_choose.specs.declared.offers.Offer.{Offer}
use Rattle.cq_choose.specs.Steps.Answers.{Answers}
use Rattle.cq_choose.specs.Steps.Offers.{OfferRecord, offer_of}
use Rattle.cq_choose.specs.Steps.Reach.{IsExact}
use Rattle.cq_choose.specs.Steps.Stocks.{stock_of, stocked, needs_in}
use Rattle.cq_choose.proofs.Enough.{enough}
use Rattle.cq_choose.proofs.Selections.{answers-found, answers-none, answers-undecided}
use Rattle.cq_choose.proofs.choosing.choose.Goals as goal

pub returns-clause-found : goal.returns-clause-found
returns-clause-found g c =
    let made = c.in_ok-offers.offers.items in
    let offers = map offer_of made in
    let stock = c.in_ok-stock.stock in
    let supply : Supply g.row.A.Denot = record { members = c.in_ok-members.members; suppliers = stock.suppliers } in
    answers-found c.args.board.now c.len-good.ensures.valid c.deref.result.now c.args.names.now offers (stock_of stock) supply c.deref-4.result.now
    c.in_ok-offers.ensures
    (c.in_ok-stock.ensures ∙ ap (λ (l : List (Offer g.row.A.Denot)). stocked (map offer_of l)) c.deref-2.ensures.value)
    (c.in_ok-members.ensures.owners ∙ ap (λ (l : List (Offer g.row.A.Denot)). map (λ (o : OfferRecord). o.place) (map offer_of l)) c.deref-3.ensures.value)
    (c.in_ok-members.ensures.needs ∙ ap (λ (l : List (Offer g.row.A.Denot)). map (needs_in (stock_of stock)) (map offer_of l)) c.deref-3.ensures.value)
    refl
    (c.deref-4.ensures.value ∙ c.in_ok-wanted.ensures)
    c.in_ok-selected.field-0.selected c.in_ok-answer.answer
    (subst (λ (l : List (Offer g.row.A.Denot)). Answers (map offer_of l) c.in_ok-selected.field-0.selected c.in_ok-answer.answer) c.deref-5.ensures.value c.in_ok-answer.ensures)
    c.in_ok-selected.ensures.found

pub returns-clause-none : goal.returns-clause-none
returns-clause-none g c =
    let made = c.in_ok-offers.offers.items in
    let offers = map offer_of made in
    let stock = c.in_ok-stock.stock in
    let supply : Supply g.row.A.Denot = record { members = c.in_ok-members.members; suppliers = stock.suppliers } in
    answers-none c.args.board.now c.len-good.ensures.valid c.deref.result.now c.args.names.now offers (stock_of stock) supply c.deref-4.result.now
    c.in_ok-offers.ensures
    (c.in_ok-stock.ensures ∙ ap (λ (l : List (Offer g.row.A.Denot)). stocked (map offer_of l)) c.deref-2.ensures.value)
    (c.in_ok-members.ensures.owners ∙ ap (λ (l : List (Offer g.row.A.Denot)). map (λ (o : OfferRecord). o.place) (map offer_of l)) c.deref-3.ensures.value)
    (c.in_ok-members.ensures.needs ∙ ap (λ (l : List (Offer g.row.A.Denot)). map (needs_in (stock_of stock)) (map offer_of l)) c.deref-3.ensures.value)
    refl
    (c.deref-4.ensures.value ∙ c.in_ok-wanted.ensures)
    c.in_ok-selected.field-0.selected c.in_ok-answer.answer
    (subst (λ (l : List (Offer g.row.A.Denot)). Answers (map offer_of l) c.in_ok-selected.field-0.selected c.in_ok-answer.answer) c.deref-5.ensures.value c.in_ok-answer.ensures)
    (enough c.args.board.now c.len-good.ensures.valid c.args.names.now c.deref.result.now (subst (IsExact c.args.board.now c.args.names.now) (sym c.deref.ensures.value) c.in_ok-spare.ensures))
    c.in_ok-selected.ensures.none

pub returns-clause-undecided : goal.returns-clause-undecided
returns-clause-undecided g c e =
    c.in_ok-selected.ensures.undecided (answers-undecided (map offer_of c.deref-5.result.now) c.in_ok-selected.field-0.selected c.in_ok-answer.answer c.in_ok-answer.ensures e)

pub returns-clause-within : goal.returns-clause-within
returns-clause-within g c = c.in_ok-selected.ensures.within
