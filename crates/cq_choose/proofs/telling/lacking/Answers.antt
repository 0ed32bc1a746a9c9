use Rattle.std.proofs.Common.{◌∙◌, List, map, sym, ap}
use Rattle.cq_atom.specs.Atom.{AtomRecord}
use Rattle.cq_atom.specs.Valuation.{under}
use Rattle.cq_board.specs.Choice.{bound}
use Rattle.cq_choose.specs.declared.keys.Good.TheVariants.{Atom}
use Rattle.cq_choose.specs.Steps.Telling.{lacking_from}
use Rattle.cq_choose.proofs.Turns.{lacking-on, lacking-here, lacking-end}
use Rattle.cq_choose.proofs.telling.lacking.Goals as goal

pub loop-post-preserved : goal.loop-post-preserved
loop-post-preserved g c =
    let good = λ (post : AtomRecord). Atom (under (bound c.args.query.now c.args.values.now) post) in
    c.loop-post.invariant
    ∙ lacking-on c.args.stock.now.goods.keys good c.posts-atom-items.result.now c.loop-post.post c.atom-item.result c.loop-post-test.true c.atom-item.is (sym c.is_offered.ensures ∙ c.if-not-is_offered.false)

pub returns-then-not-is_offered : goal.returns-then-not-is_offered
returns-then-not-is_offered g c =
    let good = λ (post : AtomRecord). Atom (under (bound c.args.query.now c.args.values.now) post) in
    let goods = c.args.stock.now.goods.keys in
    sym (lacking-here goods good c.posts-atom-items.result.now c.loop-post.post c.atom-item.result c.loop-post-test.true c.atom-item.is (sym c.is_offered.ensures ∙ c.if-not-is_offered.true))
    ∙ sym c.loop-post.invariant
    ∙ ap (λ (posts : List AtomRecord). lacking_from goods 0 (map good posts)) c.posts-atom-items.ensures.value

pub returns : goal.returns
returns g c =
    let good = λ (post : AtomRecord). Atom (under (bound c.args.query.now c.args.values.now) post) in
    let goods = c.args.stock.now.goods.keys in
    sym (lacking-end goods good c.posts-atom-items.result.now c.loop-post.post c.loop-post-test.false)
    ∙ sym c.loop-post.invariant
    ∙ ap (λ (posts : List AtomRecord). lacking_from goods 0 (map good posts)) c.posts-atom-items.ensures.value
