use Rattle.std.proofs.Common.{◌≡◌, ◌<◌, length, set, ap, sym, subst, ◌∙◌}
use Rattle.std.proofs.Math.Numerals.{add-one-le}
use Rattle.cq_blocks.specs.Blocks.{lists_of, halved}
use Rattle.cq_blocks.proofs.Lists.{on_err}
use Rattle.cq_blocks.proofs.Vecs.{lists-halved, lists-set-same}
use Rattle.cq_blocks.proofs.Within.{within-room, stays-within}
use Rattle.cq_blocks.proofs.Edited.{no-ok}
use Rattle.cq_blocks.proofs.edits.cut.Goals as goal

pub returns-clause-ok : goal.returns-clause-ok
returns-clause-ok g c =
    let room = c.in_ok-reserve.ensures.items in
    lists-halved c.args.stay c.args.block c.reserve.new.self.items c.insert.new.self.items c.index_mut.result.now c.split_off.new.self c.in_ok-behind.behind
    (subst (λ l. c.args.block < length (lists_of l)) (sym room) c.requires.within) c.index_mut.ensures.value c.in_ok-behind.ensures.items c.in_ok-behind.ensures.tail c.in-Ok.ensures.items
    ∙ ap (λ l. halved c.args.stay c.args.block (lists_of l)) room

pub returns-in_err-reserve-clause-ok : goal.returns-in_err-reserve-clause-ok
returns-in_err-reserve-clause-ok g c = no-ok (λ done. lists_of c.reserve.new.self.items ≡ halved c.args.stay c.args.block (lists_of c.args.blocks.now.items)) c.from_residual.result c.from_residual.ensures.0

pub returns-in_err-reserve-clause-err : goal.returns-in_err-reserve-clause-err
returns-in_err-reserve-clause-err g c = on_err c.from_residual.result (λ err. ap (λ l. lists_of l) c.in_err-reserve.ensures.items)

pub index_mut-requires : goal.index_mut-requires
index_mut-requires g c = within-room c.reserve.new.self c.args.blocks.now.items c.args.block c.in_ok-reserve.ensures.items c.requires.within

pub split_off-requires : goal.split_off-requires
split_off-requires g c =
    stays-within c.reserve.new.self c.args.blocks.now.items c.args.block c.in_ok-reserve.ensures.items c.requires.within c.index_mut.result.now c.args.stay c.index_mut.ensures.value c.requires.long

pub returns-in_err-behind-clause-ok : goal.returns-in_err-behind-clause-ok
returns-in_err-behind-clause-ok g c =
    no-ok (λ done. lists_of (set c.reserve.new.self.items c.args.block c.split_off.new.self) ≡ halved c.args.stay c.args.block (lists_of c.args.blocks.now.items)) c.from_residual-in_err-behind.result c.from_residual-in_err-behind.ensures.0

pub returns-in_err-behind-clause-err : goal.returns-in_err-behind-clause-err
returns-in_err-behind-clause-err g c =
    let room = c.in_ok-reserve.ensures.items in
    on_err c.from_residual-in_err-behind.result (λ err.
    lists-set-same c.reserve.new.self.items c.args.block c.index_mut.result.now c.split_off.new.self (subst (λ l. c.args.block < length (lists_of l)) (sym room) c.requires.within) c.index_mut.ensures.value (ap (λ w. w.items) c.in_err-behind.ensures.err)
    ∙ ap (λ l. lists_of l) room)

pub insert-requires : goal.insert-requires
insert-requires g c = add-one-le (within-room c.reserve.new.self c.args.blocks.now.items c.args.block c.in_ok-reserve.ensures.items c.requires.within)
