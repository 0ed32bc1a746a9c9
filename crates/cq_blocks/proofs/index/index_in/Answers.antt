use Rattle.std.proofs.Common.{◌≡◌, ◌<◌, ◌≤◌, length, take, arith, ap}
use Rattle.std.specs.Prelude.{Vec}
use Rattle.std.proofs.lemmas.List.{length-map, length-take-le}
use Rattle.cq_blocks.specs.Blocks.{elements, lists_of}
use Rattle.cq_blocks.proofs.Flat.{flat-bound, counted-next, counted-within, read-of-first}
use Rattle.cq_blocks.proofs.index.index_in.Goals as goal

pub overflow_add-before : goal.overflow_add-before
overflow_add-before g c =
    let vs = c.args.blocks.now in
    let n = c.args.place.block in
    let low : c.args.place.block ≤ length c.args.blocks.now = omega (arith, length-map c.args.blocks.now (λ (w : Vec g.row.T.Denot g.row.A.Denot). w.items), c.requires.place.0) in
    let within : c.each.block-index < length c.args.blocks.now = omega (arith, length-take-le n vs low, c.each-test.true) in
    omega (arith, counted-within vs c.each.block-index c.block-item.result within (read-of-first vs c.each.block-index c.block-item.result n c.each-test.true c.block-item.is low))

pub each-preserved : goal.each-preserved
each-preserved g c =
    let vs = c.args.blocks.now in
    let n = c.args.place.block in
    let low : c.args.place.block ≤ length c.args.blocks.now = omega (arith, length-map c.args.blocks.now (λ (w : Vec g.row.T.Denot g.row.A.Denot). w.items), c.requires.place.0) in
    let within : c.each.block-index < length c.args.blocks.now = omega (arith, length-take-le n vs low, c.each-test.true) in
    omega (arith, counted-next vs c.each.block-index c.block-item.result within (read-of-first vs c.each.block-index c.block-item.result n c.each-test.true c.block-item.is low), c.each.invariant, c.len-before.ensures)

pub overflow_add-result : goal.overflow_add-result
overflow_add-result g c =
    let vs = c.args.blocks.now in
    let low : c.args.place.block ≤ length c.args.blocks.now = omega (arith, length-map c.args.blocks.now (λ (w : Vec g.row.T.Denot g.row.A.Denot). w.items), c.requires.place.0) in
    let all : c.each.block-index ≡ c.args.place.block = omega (arith, length-take-le c.args.place.block vs low, c.each-test.false, c.each.auto.block-index-end) in
    omega (arith, flat-bound (lists_of vs) c.args.place.block c.args.place.index c.requires.place.0 c.requires.place.1, ap (λ n. length (elements (take n (lists_of vs)))) all, c.each.invariant)
