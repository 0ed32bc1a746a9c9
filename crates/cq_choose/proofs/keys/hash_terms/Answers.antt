use Rattle.std.proofs.Common.{map, fold}
use Rattle.cq_atom.specs.Valuation.{term_under}
use Rattle.cq_board.specs.Choice.{bound}
use Rattle.cq_choose.specs.Steps.Goods.{term_of, terms_input}
use Rattle.cq_choose.proofs.Onward.{hashed-on, hashed-end}
use Rattle.cq_choose.proofs.keys.hash_terms.Goals as goal

pub loop-term-preserved : goal.loop-term-preserved
loop-term-preserved g c =
    let f = term_under (bound c.args.instance.now.query.now c.args.instance.now.values.now) in
    let terms = c.args.terms.now in
    hashed-on g.H.Hasher.write f terms c.loop-term.term-index (fold g.H.Hasher.write c.args.state.now (terms_input (map f terms)))
    c.hash_part.new.state c.loop-term.state (term_of c.part_of.result) c.term-item.result c.loop-term-test.true c.term-item.is c.part_of.ensures c.hash_part.ensures c.loop-term.invariant

pub returns : goal.returns
returns g c =
    let f = term_under (bound c.args.instance.now.query.now c.args.instance.now.values.now) in
    let terms = c.args.terms.now in
    hashed-end g.H.Hasher.write f terms c.loop-term.term-index (fold g.H.Hasher.write c.args.state.now (terms_input (map f terms))) c.loop-term.state c.loop-term-test.false c.loop-term.invariant
