use Rattle.std.proofs.Common.{◌∙◌, ◌++◌, ◌+◌, List, map, drop, ap, arith}
use Rattle.std.specs.Prelude.{string_bytes}
use Rattle.std.specs.List.{flat_map}
use Rattle.cq_atom.specs.Atom.{AtomRecord}
use Rattle.cq_atom.specs.Valuation.{under}
use Rattle.cq_board.specs.Choice.{bound}
use Rattle.cq_board.proofs.CallerLemmas.{read_at}
use Rattle.cq_render.proofs.CallerLemmas.{mapped_at, nothing_left, put_on, put_end}
use Rattle.cq_going.specs.Going.{offer_line}
use Rattle.cq_going.proofs.listing.put_heads.Goals as goal

pub loop-head-preserved : goal.loop-head-preserved
loop-head-preserved g c =
    let i = c.loop-head.head-index in
    let heads = c.heads-head-items.result.now in
    let head = c.head-item.result in
    let h : AtomRecord → AtomRecord = under (bound c.args.query.now c.args.values.now) in
    put_on (string_bytes c.loop-head.page) (string_bytes c.put_offer.new.page) (offer_line c.args.name.now (h head)) _ (flat_map (offer_line c.args.name.now) (map h (drop (i + 1) heads))) _
    (mapped_at (offer_line c.args.name.now) h heads i head (read_at heads i head c.loop-head-test.true c.head-item.is)) c.loop-head.invariant c.in_ok-put_offer.ensures

pub returns : goal.returns
returns g c =
    let heads = c.heads-head-items.result.now in
    let h : AtomRecord → AtomRecord = under (bound c.args.query.now c.args.values.now) in
    put_end _ (flat_map (offer_line c.args.name.now) (map h (drop c.loop-head.head-index heads))) _
    (ap (λ (l : List AtomRecord). flat_map (offer_line c.args.name.now) (map h l)) (nothing_left heads c.loop-head.head-index (omega arith)))
    (c.loop-head.invariant ∙ ap (λ (l : List AtomRecord). string_bytes c.args.page.now ++ flat_map (offer_line c.args.name.now) (map h l)) c.heads-head-items.ensures.value)
