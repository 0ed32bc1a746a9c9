use Rattle.std.proofs.Common.{◌∙◌, List, map, ap}
use Rattle.std.proofs.lemmas.List.{take_all}
use Rattle.cq_atom.specs.Atom.{AtomRecord}
use Rattle.cq_atom.specs.Valuation.{under}
use Rattle.cq_board.specs.Choice.{bound}
use Rattle.cq_choose.specs.declared.keys.Good.TheVariants.{Atom}
use Rattle.cq_choose.specs.Steps.Stocks.{stock_of, number_in}
use Rattle.cq_choose.proofs.Onward.{numbers-more}
use Rattle.cq_choose.proofs.stock.needs_in.Goals as goal

pub loop-post-preserved : goal.loop-post-preserved
loop-post-preserved g c =
    let offer = c.args.offer.now in
    let stock = stock_of c.args.stock.now in
    let good = λ (atom : AtomRecord). Atom (under (bound offer.query.now offer.values.now) atom) in
    c.in_ok-push.ensures.items
    ∙ numbers-more (number_in stock) good c.loop-post.needs.items c.number_in.result _ c.loop-post.post-index c.post-item.result c.loop-post-test.true c.post-item.is c.loop-post.invariant
    (c.number_in.ensures ∙ ap (number_in stock) c.atom_key.ensures)

-- the items of the loop have no name here that stays where they are others
pub returns : goal.returns
returns g c =
    let offer = c.args.offer.now in
    let stock = stock_of c.args.stock.now in
    let good = λ (atom : AtomRecord). Atom (under (bound offer.query.now offer.values.now) atom) in
    c.loop-post.invariant ∙ ap (λ (atoms : List AtomRecord). map (number_in stock) (map good atoms)) (take_all c.loop-post.post-index _ c.loop-post-test.false ∙ (cc))
