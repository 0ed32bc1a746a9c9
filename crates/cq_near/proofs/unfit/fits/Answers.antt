use Rattle.std.proofs.Common.{◌≡◌, not, true, false, Bool, take, sym, ap, ◌∙◌, arith}
use Rattle.std.specs.Prelude.{zip, ◌&&◌}
use Rattle.std.specs.List.{list_all}
use Rattle.cq_atom.specs.Atom.{TermContent}
use Rattle.cq_atom.specs.Value.{ValueContent}
use Rattle.cq_near.specs.Unfit.{is_strange}
use Rattle.cq_near.proofs.Places.{all_at, all_fail, all_places}
use Rattle.cq_near.proofs.unfit.fits.Goals as goal

pub returns-then-is_strange : goal.returns-then-is_strange
returns-then-is_strange g c =
    let ts = c.args.terms.now in
    let vs = c.args.values.now in
    let i = c.loop-place.place in
    let p = λ (place : TermContent × ValueContent). not (is_strange ts vs place) in
    let least = c.min-place-end.ensures in
    let low = c.loop-place-test.true in
    let here = all_at ts vs i c.index-terms-place.result c.index-values-place.result (omega arith) (omega arith) c.index-terms-place.is c.index-values-place.is p in
    let strange : is_strange ts vs (c.index-terms-place.result, c.index-values-place.result) ≡ true = sym c.is_strange.ensures ∙ c.if-is_strange.true in
    sym (all_fail p (zip ts vs) _ (here ∙ ap (λ (b : Bool). list_all p (take i (zip ts vs)) && not b) strange ∙ ap (λ (b : Bool). b && false) c.loop-place.invariant))

pub loop-place-preserved : goal.loop-place-preserved
loop-place-preserved g c =
    let ts = c.args.terms.now in
    let vs = c.args.values.now in
    let i = c.loop-place.place in
    let p = λ (place : TermContent × ValueContent). not (is_strange ts vs place) in
    let least = c.min-place-end.ensures in
    let low = c.loop-place-test.true in
    let here = all_at ts vs i c.index-terms-place.result c.index-values-place.result (omega arith) (omega arith) c.index-terms-place.is c.index-values-place.is p in
    let usual : is_strange ts vs (c.index-terms-place.result, c.index-values-place.result) ≡ false = sym c.is_strange.ensures ∙ c.if-is_strange.false in
    here ∙ ap (λ (b : Bool). list_all p (take i (zip ts vs)) && not b) usual ∙ ap (λ (b : Bool). b && true) c.loop-place.invariant

pub returns : goal.returns
returns g c =
    let ts = c.args.terms.now in
    let vs = c.args.values.now in
    let least = c.min-place-end.ensures in
    let over = c.loop-place-test.false in
    sym (ap (list_all (λ place. not (is_strange ts vs place))) (sym (all_places ts vs c.loop-place.place (omega arith))) ∙ c.loop-place.invariant)
