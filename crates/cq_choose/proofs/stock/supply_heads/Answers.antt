use Rattle.cq_atom.specs.Atom.{AtomRecord}
use Rattle.cq_atom.specs.Valuation.{under}
use Rattle.cq_board.specs.Choice.{bound}
use Rattle.cq_choose.specs.declared.keys.Good.TheVariants.{Atom}
use Rattle.cq_choose.specs.Steps.Stocks.{stock_of}
use Rattle.cq_choose.proofs.Onward.{supplied-on, supplied-end}
use Rattle.cq_choose.proofs.stock.supply_heads.Goals as goal

pub loop-head-preserved : goal.loop-head-preserved
loop-head-preserved g c =
    let offer = c.args.offer.now in
    let good = λ (atom : AtomRecord). Atom (under (bound offer.query.now offer.values.now) atom) in
    supplied-on c.args.member good _ c.loop-head.head-index _ (stock_of c.supply.new.stock) (stock_of c.loop-head.stock) c.atom_key.result c.head-item.result c.loop-head-test.true c.head-item.is c.atom_key.ensures c.in_ok-supply.ensures
    c.loop-head.invariant

-- the items of the loop have no name here that stays where they are others
pub returns : goal.returns
returns g c =
    let offer = c.args.offer.now in
    let good = λ (atom : AtomRecord). Atom (under (bound offer.query.now offer.values.now) atom) in
    supplied-end c.args.member good _ offer.query.now.heads c.loop-head.head-index (stock_of c.loop-head.stock) (stock_of c.args.stock.now) c.loop-head-test.false c.loop-head.invariant (cc)
