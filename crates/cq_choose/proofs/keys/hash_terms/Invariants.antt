use Rattle.std.proofs.Common.{◌≡◌, map, drop, fold}
use Rattle.cq_atom.specs.Valuation.{term_under}
use Rattle.cq_board.specs.Choice.{bound}
use Rattle.cq_choose.specs.Steps.Goods.{terms_input}
use Rattle.cq_choose.proofs.keys.hash_terms.Given as goal

-- what is left leads to the same
abbrev pub invariant-loop-term : goal.invariant-loop-term
invariant-loop-term g l =
    let f = term_under (bound l.instance.query.now l.instance.values.now) in
    fold g.H.Hasher.write l.state (terms_input (map f (drop l.term-index l.terms))) ≡ fold g.H.Hasher.write l.initial.state (terms_input (map f l.terms))
