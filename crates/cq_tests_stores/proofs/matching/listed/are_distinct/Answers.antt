use Rattle.std.proofs.Common.{List, ℕ, Bool, nat_eq, subst, ◌∙◌, sym}
use Rattle.std.specs.List.{IsDistinct}
use Rattle.std.proofs.lemmas.List.{take_all}
use Rattle.cq_match.specs.Matched.{numbers}
use Rattle.cq_tests_stores.proofs.Lists.{distinct-more, none-distinct}
use Rattle.cq_tests_stores.proofs.matching.listed.are_distinct.Goals as goal

pub loop-place-init : goal.loop-place-init
loop-place-init c = none-distinct

pub loop-place-preserved : goal.loop-place-preserved
loop-place-preserved c = distinct-more c.args.nodes.now c.loop-place.place _ c.loop-place-test.true c.loop-place.invariant (sym c.is_listed.ensures ∙ c.if-is_listed.false)

pub returns : goal.returns
returns c = λ all.
    let whole = take_all c.loop-place.place c.args.nodes.now c.loop-place-test.false in
    subst (λ (nodes : List (ℕ × ℕ × Bool)). IsDistinct nat_eq (numbers nodes)) whole c.loop-place.invariant
