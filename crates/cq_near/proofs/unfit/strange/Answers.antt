use Rattle.std.proofs.Common.{◌≡◌, ◌++◌, ◌∷◌, [], List, map, take, Vec, sym, ap, ◌∙◌, arith}
use Rattle.std.specs.Prelude.{zip, filter}
use Rattle.cq_atom.specs.Atom.{TermContent}
use Rattle.cq_atom.specs.Value.{ValueContent}
use Rattle.cq_near.specs.Unfit.{is_strange}
use Rattle.std.proofs.lemmas.List.{map-append}
use Rattle.cq_near.proofs.Places.{all_places, same_read, one_more, none_more}
use Rattle.cq_near.proofs.unfit.strange.Goals.{then-is_strange+in_ok-push, else-is_strange}
use Rattle.cq_near.proofs.unfit.strange.Goals as goal

pub loop-place-preserved : goal.loop-place-preserved
loop-place-preserved g c =
    let ts = c.args.terms.now in
    let vs = c.args.values.now in
    let i = c.loop-place.place in
    let t = c.index-terms-place.result in
    let v = c.index-values-place.result in
    let p = is_strange ts vs in
    let second = λ (place : TermContent × ValueContent). place.1 in
    let least = c.min-place-end.ensures in
    let low = c.loop-place-test.true in
    elim c.if-is_strange.branch [
      | then-is_strange+in_ok-push w ↦
          let u = w.index-values-place-then-is_strange.result in
          let same : v ≡ u = same_read vs i v u (omega arith) c.index-values-place.is w.index-values-place-then-is_strange.is in
          ap (λ (found : Vec _ _). map (λ r. r.now) found.items) w.found-is ∙ ap (map (λ r. r.now)) w.in_ok-push.ensures.items ∙ map-append (λ r. r.now) c.loop-place.found.items _
          ∙ ap (λ (values : List ValueContent). values ++ u ∷ []) c.loop-place.invariant ∙ ap (λ (value : ValueContent). map second (filter p (take i (zip ts vs))) ++ value ∷ []) (sym same)
          ∙ sym (one_more ts vs i t v (omega arith) (omega arith) c.index-terms-place.is c.index-values-place.is second p (sym c.is_strange.ensures ∙ w.if-is_strange.true))
      | else-is_strange w ↦
          ap (λ (found : Vec _ _). map (λ r. r.now) found.items) w.found-is ∙ c.loop-place.invariant
          ∙ sym (none_more ts vs i t v (omega arith) (omega arith) c.index-terms-place.is c.index-values-place.is second p (sym c.is_strange.ensures ∙ w.if-is_strange.false))
    ]

pub returns : goal.returns
returns g c =
    let ts = c.args.terms.now in
    let vs = c.args.values.now in
    let least = c.min-place-end.ensures in
    let over = c.loop-place-test.false in
    c.loop-place.invariant ∙ ap (λ (zs : List (TermContent × ValueContent)). map (λ place. place.1) (filter (is_strange ts vs) zs)) (all_places ts vs c.loop-place.place (omega arith))
